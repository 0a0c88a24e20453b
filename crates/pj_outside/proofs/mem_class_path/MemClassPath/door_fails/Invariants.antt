use Rattle.std.proofs.Common.{◌≡◌, take}
use Rattle.pj_outside.specs.Doors.{fails_at}
use Rattle.pj_outside.proofs.mem_class_path.MemClassPath.door_fails.Given as goal

abbrev pub invariant-loop-door : goal.invariant-loop-door
invariant-loop-door l = l.numbers ≡ fails_at l.self.given (take l.door-index l.door-items)
