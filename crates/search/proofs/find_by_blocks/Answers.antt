-- `search::find_by_blocks` meets its contract: the search goes on from where the blocks end, and past the end there is nothing.
use Rattle.std.proofs.Common.{◌≡◌, ℕ, [], ◌∷◌, ◌∙◌, ap, sym, ◌+◌, ◌*◌, ◌/◌, ◌-◌, length, take, drop, length-drop, arith}
use Rattle.std.specs.List.{prefix_len}
use Rattle.std.specs.Option.{option_or}
use Rattle.std.specs.Simd.{first_chunks}
use Rattle.base.proofs.Parts.{take-length-drop}
use Rattle.search.specs.First.{first_at}
use Rattle.base.specs.Code.Without.{without}
use Rattle.search.proofs.Laws.{no_room, or_nothing}
use Rattle.search.proofs.Blocks.{blocks_skipped}
use Rattle.search.proofs.find_by_blocks.Goals as goal

pub returns : goal.returns
returns c =
    let a = c.args in
    let s = a.s.now in
    let r = c.byte_before.result in
    let l = length (take (length s - a.at) (drop a.at s)) in
    let k : l ≡ length s - a.at = ap length (take-length-drop s a.at) ∙ length-drop a.at s in
    let f = first_at (a.b ∷ []) s in
    let e = c.blocks_without.ensures.without ∙ ap (prefix_len (without a.b)) (c.as_chunks.ensures.front ∙ ap (first_chunks 16 (l / 16)) (take-length-drop s a.at)) in
    sym (blocks_skipped a.b 16 s (l / 16) a.at (omega arith) ∙ ap (λ (m : ℕ). f (a.at + 16 * m)) (sym e)
    ∙ c.byte_before.ensures ∙ ap (option_or r) (no_room (a.b ∷ []) s _ (omega arith)) ∙ or_nothing r)
