-- How far the recursion of types goes behind what a type is held of.
use Rattle.std.proofs.Common.{ℕ, ◌+◌, ◌*◌}
use Rattle.pj_exprtypes.specs.declared.held.Subject.{Subject}
use Rattle.pj_exprtypes.specs.declared.held.Subject.TheVariants as subject

-- A variable before another one counts 100,000,000 less, and a node within another one 20.
abbrev pub rank : Subject → ℕ → ℕ
rank (subject.Var id) left = 100000000 * id.0 + 90000000
rank (subject.Written id declaration) left = 0
rank (subject.Expression before n) left = 100000000 * before + 20 * left + 4
