-- One line more of the second pass.
use Prim.Native.Nat.{ℕ, suc, ◌+◌, ◌-◌, ◌<◌, ◌≤◌, min}
use mathlib.Core.Path.{◌≡◌, refl, sym, ap, ◌∙◌}
use mathlib.Core.List.{List, [], ◌∷◌}
use native.Mathlib.Omega.{arith}
use native.Mathlib.Nat.{min-le_left, min-le_right}
use lib.ListN.{length, drop, set, length-set}
use Rattle.base.specs.Overwrite.{overwrite}
use Rattle.base.specs.Outcome.{is}
use Rattle.base.proofs.Tests.{by_leb}
use Rattle.base.proofs.Overwrite.{overwrite_none, overwrite_one, overwrite_then}
use Rattle.base.proofs.Outcome.{not_is, is_same, then_is}
use Rattle.lines.specs.Lines.{lines}
use Rattle.kinds.specs.Kinds.{Operation, operation}
use Rattle.operation.specs.Line.{Rule}
use Rattle.ops.specs.Ops.{Reading, then_read, read_lines, ops_of, kinds_of, operands_of}
use Rattle.operation.specs.Code.Fast.{line_read_at}
use Rattle.ops.specs.Code.Passes.{read_into, NoneRefused, Filled}
use Rattle.operation.specs.declared.OpsError.{OpsError}
use Rattle.operation.specs.declared.line.LineRead.{LineRead}
use Rattle.operation.specs.declared.line.LineRead.TheVariants.{Skip, Op, Bad}
use Rattle.operation.specs.declared.line.ReadLine.{ReadLine}
use Rattle.ops.proofs.FirstPass.{Stands, at_first, ended, moved, read_on}

-- a buffer that holds n of what is to be written, with the rest before it
abbrev Half : List ℕ → List ℕ → ℕ → List ℕ → Type 0
Half whole out n rest = whole ≡ overwrite n rest out

half_more : (whole out rest : List ℕ) (n v : ℕ) → n < length out → Half whole out n (v ∷ rest) → Half whole (set out n v) (n + 1) rest
half_more whole out rest n v h e =
    e ∙ sym (overwrite_then n (v ∷ []) out (omega arith) rest) ∙ ap (overwrite (n + 1) rest) (overwrite_one n v out h)

half_all : (whole out : List ℕ) (n : ℕ) → Half whole out n [] → out ≡ whole
half_all whole out n e = sym (e ∙ overwrite_none n out)

-- the buffers hold n operations, and the lines from here on hold the rest
pub record Filling (rule : Rule) (text kinds₀ operands₀ kinds operands : List ℕ) (at line n : ℕ) : Type 0 where
  pub stands : Stands text at line
  pub same_kinds : length kinds ≡ length kinds₀
  pub same_operands : length operands ≡ length operands₀
  pub rest : List Operation
  pub is : read_lines rule text line (lines (drop at text)) (min (length kinds₀) (length operands₀) - n) ≡ is rest
  pub in_kinds : Half (overwrite 0 (kinds_of (ops_of (read_into rule text kinds₀ operands₀))) kinds₀) kinds n (kinds_of rest)
  pub in_operands : Half (overwrite 0 (operands_of (ops_of (read_into rule text kinds₀ operands₀))) operands₀) operands n (operands_of rest)

pub fill_first : (rule : Rule) (text kinds operands : List ℕ) → NoneRefused rule text kinds operands → Filling rule text kinds operands kinds operands 0 0 0
fill_first rule text kinds operands g =
    let m = min (length kinds) (length operands) in
    let z : m - 0 ≡ m = omega arith in
    let o : ops_of (read_into rule text kinds operands) ≡ g.read = ap ops_of g.is in
    record {
      stands = at_first text;
      same_kinds = refl;
      same_operands = refl;
      rest = g.read;
      is = ap (read_lines rule text 0 (lines text)) z ∙ g.is;
      in_kinds = ap (λ (os : List Operation). overwrite 0 (kinds_of os) kinds) o;
      in_operands = ap (λ (os : List Operation). overwrite 0 (operands_of os) operands) o;
    }

module _ {rule : Rule} {text kinds₀ operands₀ kinds operands : List ℕ} {at line n : ℕ} (p : Filling rule text kinds₀ operands₀ kinds operands at line n) where
  -- at the end
  pub filled : length text ≤ at → Filled rule text kinds₀ operands₀ kinds operands
  filled h =
      let z = is_same (sym p.is ∙ ended p.stands rule _ h) in
      record {
        in_kinds = half_all _ kinds n (p.in_kinds ∙ ap (λ (os : List Operation). overwrite n (kinds_of os) kinds) z);
        in_operands = half_all _ operands n (p.in_operands ∙ ap (λ (os : List Operation). overwrite n (operands_of os) operands) z);
      }

  -- at a line
  module _ (h : at < length text) (r : ReadLine) (e : r ≡ line_read_at rule text at (line + 1)) where
    abbrev room : ℕ
    room = min (length kinds₀) (length operands₀)

    abbrev more : ℕ → Reading
    more m = read_lines rule text (line + 1) (lines (drop r.next text)) m

    says : (x : LineRead) → r.read ≡ x → then_read (line + 1) (room - n) more x ≡ is p.rest
    says x q = ap (then_read (line + 1) (room - n) more) (sym q) ∙ sym (read_on p.stands rule h r e (room - n)) ∙ p.is

    pub fill_skip : r.read ≡ Skip → Filling rule text kinds₀ operands₀ kinds operands r.next (line + 1) n
    fill_skip q =
        record {
          stands = moved p.stands rule h r e;
          same_kinds = p.same_kinds;
          same_operands = p.same_operands;
          rest = p.rest;
          is = says Skip q;
          in_kinds = p.in_kinds;
          in_operands = p.in_operands;
        }

    -- no line is refused
    pub fill_bad : {P : Type 0} (x : OpsError) → r.read ≡ Bad x → P
    fill_bad x q = not_is (says (Bad x) q)

    module _ (k v : ℕ) (q : r.read ≡ Op k v) where
      -- there is room
      pub fill_room : n < room
      fill_room = by_leb room n (λ g. absurd (full g)) (λ g. g)
        where
          full : room ≤ n → ⊥
          full g =
              let m : 0 ≡ room - n = omega arith in
              not_is (ap (λ (m : ℕ). then_read (line + 1) m more (Op k v)) m ∙ says (Op k v) q)

      pub room_kinds : n < length kinds
      room_kinds = let f = fill_room in let s = p.same_kinds in omega (arith, min-le_left (length kinds₀) (length operands₀))

      pub room_operands : n < length operands
      room_operands = let f = fill_room in let s = p.same_operands in omega (arith, min-le_right (length kinds₀) (length operands₀))

      pub fill_op : Filling rule text kinds₀ operands₀ (set kinds n k) (set operands n v) r.next (line + 1) (n + 1)
      fill_op =
          let f = fill_room in
          let m : suc (room - (n + 1)) ≡ room - n = omega arith in
          let t = then_is (more (room - (n + 1))) (λ os. is (operation k v ∷ os)) (ap (λ (m : ℕ). then_read (line + 1) m more (Op k v)) m ∙ says (Op k v) q) in
          go t.0 t.1 t.2
        where
          go : (os : List Operation) → more (room - (n + 1)) ≡ is os → ◌≡◌ {A = Reading} (is (operation k v ∷ os)) (is p.rest) → Filling rule text kinds₀ operands₀ (set kinds n k) (set operands n v) r.next (line + 1) (n + 1)
          go os y w =
              let z = sym (is_same w) in
              record {
                stands = moved p.stands rule h r e;
                same_kinds = length-set kinds n k ∙ p.same_kinds;
                same_operands = length-set operands n v ∙ p.same_operands;
                rest = os;
                is = y;
                in_kinds = half_more _ kinds (kinds_of os) n k room_kinds
                    (p.in_kinds ∙ ap (λ (os : List Operation). overwrite n (kinds_of os) kinds) z);
                in_operands = half_more _ operands (operands_of os) n v room_operands
                    (p.in_operands ∙ ap (λ (os : List Operation). overwrite n (operands_of os) operands) z);
              }
