use Rattle.std.proofs.Common.{◌≡◌, ◌≤ℤ◌, pos}
use Rattle.mj_imp.specs.Impedance.{one, pw}
use Rattle.mj_imp.proofs.solimp.power.Given as goal

abbrev pub invariant-loop-i : goal.invariant-loop-i
invariant-loop-i l = (l.result.mid ≡ pw l.q.mid l.i) × (pos 0 ≤ℤ l.result.mid) × (l.result.mid ≤ℤ one)
