-- An oracle over another that notes the names it is asked. One set tells both the names asked beneath and the names
-- noted: the former with the byte 0 in front, the latter with the byte 1.
use Rattle.std.specs.Borrow.{GName}
use Rattle.std.specs.Prelude.{◌≡◌, ◌≤◌, ℕ, Bool, [], ◌∷◌, ◌++◌, map, Result, OnOk, IsTrue}
use Rattle.std.specs.FinSet as set
use Rattle.pj_names.specs.declared.oracle.AskFault.{AskFault}
use Rattle.pj_names.specs.ClassName.{NameSet}
use Rattle.pj_names.specs.Asking.{Asking, names_of}
use Rattle.pj_names.specs.Told.{World, Worlds, Over, Told, longest, with_names, IsWithin}

-- the names asked beneath and the names noted, as one set
abbrev pub both : NameSet → NameSet → NameSet
both beneath noted = set.union (set.from_list (map (λ name. 0 ∷ name) (set.items beneath))) (set.from_list (map (λ name. 1 ∷ name) (set.items noted)))

-- the world whose names need what they need beneath, and are noted
abbrev pub noting_world : World → World
noting_world inner = record { answer = inner.answer; needs = λ name. map (λ need. 0 ∷ need) (inner.needs name) ++ (1 ∷ name) ∷ [] }

-- what an oracle tells that notes the names, from the references to the inner one and to the names, the names noted, and
-- what the inner one tells
abbrev pub tells_noting : {K : Type 0} → GName → GName → NameSet → Told K → Told (Over GName K)
tells_noting reference place noted inner = record {
  is_told = inner.is_told;
  world = λ depth. noting_world (inner.world depth);
  kept = record { own = place; reference = reference; is_told = inner.is_told; world = inner.world; kept = inner.kept };
  asked = both inner.asked noted;
  faults = inner.faults;
}

-- what a call notes that asks as a meaning says
pub record Notes {A : Type 0} (meaning : Asking A) (is_told : Bool) (world : Worlds) (old new : NameSet) (result : Result A AskFault) : Type 0 where
  pub noted_is : IsTrue is_told → (depth : ℕ) → longest ≤ depth → OnOk result (new ≡ with_names old (names_of depth (world depth).answer meaning))
  pub noted_stays : IsWithin old new
  pub noted_within : IsTrue is_told → (depth : ℕ) → longest ≤ depth → IsWithin new (with_names old (names_of depth (world depth).answer meaning))
