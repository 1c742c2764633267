use Rattle.std.proofs.Common.{ℕ, ◌≡◌, ◌-◌, ◌<◌, ◌≤◌, true, length, drop}
use Rattle.std.specs.Slice.Iter.{windows_size, windows_rest}
use Rattle.utf8.specs.Code.Windows.{follows_at}
use Rattle.utf8.proofs.all_follow.Given as goal

abbrev pub invariant-loop-w : goal.invariant-loop-w
invariant-loop-w l =
    let rest = windows_rest l.w-iterator in
    let i = length l.s - length rest in
    (windows_size l.w-iterator ≡ 4) × (length rest ≤ length l.s) × (rest ≡ drop i l.s) × (l.all ≡ true → (k : ℕ) → k < i → follows_at l.s k ≡ true)
