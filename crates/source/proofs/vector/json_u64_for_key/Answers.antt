-- `source::vector::json_u64_for_key` meets its contract: what each search finds lies within the text.
use Rattle.std.proofs.Common.{◌≡◌, ◌<◌, length, sym, ◌∙◌, arith}
use Rattle.std.specs.Prelude.{Some}
use Rattle.base.specs.Ascii.{ascii}
use Rattle.key.specs.Key.{quoted}
use Rattle.key.proofs.Quoted.{quoted-length}
use Rattle.source.proofs.Found.{in_text}
use Rattle.source.proofs.vector.json_u64_for_key.Goals as goal
use Rattle.source.proofs.vector.json_u64_for_key.Goals.{In_ok-colon}

pub overflow_add-at : goal.overflow_add-at
overflow_add-at c =
    let e : c.find_quoted.result ≡ Some c.in_ok-at.at = grind arith in
    let i = in_text (quoted c.args.key.now) c.args.vector.now 0 _ (sym c.find_quoted.ensures ∙ e) in
    omega (arith, quoted-length c.args.key.now)

colon_inside : (c : In_ok-colon) → c.in_ok-colon.colon < length c.args.vector.now
colon_inside c =
    let e : c.find_byte.result ≡ Some c.in_ok-colon.colon = grind arith in
    let i = in_text (ascii ":") c.args.vector.now _ _ (sym c.find_byte.ensures ∙ e) in
    omega arith

pub overflow_add-colon : goal.overflow_add-colon
overflow_add-colon c = let i = colon_inside (goal.at.overflow_add-colon c).In_ok-colon in omega arith

pub slice_bounds-trim_start-count : goal.slice_bounds-trim_start-count
slice_bounds-trim_start-count c = let i = colon_inside (goal.at.slice_bounds-trim_start-count c).In_ok-colon in omega arith

pub slice_bounds-trim_start-start : goal.slice_bounds-trim_start-start
slice_bounds-trim_start-start c = let i = colon_inside (goal.at.slice_bounds-trim_start-start c).In_ok-colon in omega arith
