-- `trim::skip_blocks` meets its contract: the blocks that are passed are of White_Space of one byte.
use Rattle.std.proofs.Common.{ℕ, sym, ap, ◌∙◌, ◌*◌, ◌/◌, drop, length, arith}
use Rattle.std.specs.List.{prefix_len}
use Rattle.base.specs.Lists.{all}
use Rattle.trim.specs.Trim.{white1, start_trimmed}
use Rattle.trim.proofs.Laws.{first_blocks_passed}
use Rattle.trim.proofs.skip_blocks.Goals as goal

pub returns : goal.returns
returns c =
    let s = c.args.s.now in
    let e = c.white_blocks.ensures.white ∙ ap (prefix_len (all white1)) c.as_chunks.ensures.front in
    record {
      within = omega arith;
      same = first_blocks_passed 16 s (length s / 16) (omega arith) ∙ ap (λ (m : ℕ). start_trimmed (drop (16 * m) s)) (sym e);
    }
