-- A smallest class file (JVMS 4.1): a class, its superclass, and nothing else.
use Rattle.std.specs.Prelude.{ℕ, [], ◌∷◌, ◌++◌, length}
use Rattle.std.specs.Int.{w16, to_be_bytes}
use Rattle.pj_outside.specs.Files.{Bytes}

-- a number of two bytes, the higher one first
abbrev pub two_bytes : ℕ → Bytes
two_bytes n = to_be_bytes w16 n

-- an entry of the pool that names a class by the entry of its name (JVMS 4.4.1)
abbrev pub class_entry : ℕ → Bytes
class_entry name = 7 ∷ two_bytes name

-- an entry of the pool that is a text (JVMS 4.4.7)
abbrev pub text_entry : Bytes → Bytes
text_entry text = 1 ∷ (two_bytes (length text) ++ text)

-- the first four bytes of each class file
abbrev pub magic : Bytes
magic = 202 ∷ 254 ∷ 186 ∷ 190 ∷ []

-- version 52.0
abbrev pub version : Bytes
version = two_bytes 0 ++ two_bytes 52

-- four entries: the class is the first, its superclass the third, and each has its name behind it
abbrev pub pool : Bytes → Bytes → Bytes
pool name super = two_bytes 5 ++ (class_entry 2 ++ (text_entry name ++ (class_entry 4 ++ text_entry super)))

-- public, with the bit that every class has (ACC_SUPER); no interfaces, fields, methods or attributes
abbrev pub body : Bytes
body = two_bytes 33 ++ (two_bytes 1 ++ (two_bytes 3 ++ (two_bytes 0 ++ (two_bytes 0 ++ (two_bytes 0 ++ two_bytes 0)))))

-- the class of this name and superclass, with the names in their internal form (JVMS 4.2.1)
abbrev pub small_class : Bytes → Bytes → Bytes
small_class name super = magic ++ (version ++ (pool name super ++ body))
