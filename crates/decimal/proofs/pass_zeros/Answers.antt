-- `decimal::pass_zeros` meets its contract: it passes the blocks of zeros that come first.
use Rattle.std.proofs.Common.{◌≡◌, ℕ, ◌∙◌, ap, sym, subst, refl, ◌+◌, ◌*◌, ◌/◌, ◌-◌, length, take, drop, length-drop, arith}
use Rattle.std.specs.List.{prefix_len}
use Rattle.std.specs.Simd.{first_chunks}
use lib.Dec.{eqb}
use Rattle.base.specs.Lists.{all}
use Rattle.base.proofs.Parts.{take-length-drop}
use Rattle.decimal.specs.Code.Zeros.{ZerosTo}
use Rattle.decimal.proofs.Runs.{no_zeros, blocks_passed}
use Rattle.decimal.proofs.pass_zeros.Goals as goal

pub returns-then-not-is_zero_at : goal.returns-then-not-is_zero_at
returns-then-not-is_zero_at c = no_zeros _ _ _ refl

pub returns : goal.returns
returns c =
    let a = c.args in
    let s = a.s.now in
    let l = length (take (length s - a.at) (drop a.at s)) in
    let k : l ≡ length s - a.at = ap length (take-length-drop s a.at) ∙ length-drop a.at s in
    let e = c.zero_blocks.ensures.zeros ∙ ap (prefix_len (all (λ b. eqb b 48))) (c.as_chunks.ensures.front ∙ ap (first_chunks 16 (l / 16)) (take-length-drop s a.at)) in
    subst (λ (m : ℕ). ZerosTo s a.at (a.at + 16 * m)) (sym e) (blocks_passed 16 s (l / 16) a.at (omega arith))
