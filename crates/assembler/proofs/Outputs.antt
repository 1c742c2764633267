-- The output's pieces, and what is answered of an accepted contract.
use Rattle.std.specs.Prelude.{Result, Ok, Err}
use Rattle.assembler.specs.declared.Assembly.{Assembly}
use Prim.Native.Nat.{ℕ, ◌+◌, ◌<◌, ◌≤◌}
use mathlib.Core.Path.{◌≡◌, refl, sym, ap, subst, ◌∙◌}
use mathlib.Core.List.{List, [], ◌∷◌, ◌++◌, append_assoc}
use mathlib.Core.Bool.{true, false}
use native.Mathlib.Omega.{arith}
use borrow.Author.Tests.{le-leb, lt-leb}
use lib.ListN.{length, take, drop, length-append}
use Rattle.base.proofs.Parts.{take-drop_slice}
use Rattle.decimal.specs.Decimal.{decimal}
use Rattle.base.specs.Ascii.{ascii}
use Rattle.grammar.specs.Tree.{Tree}
use Rattle.grammar.specs.Code.Lengths.{len_of}
use Rattle.grammar.specs.Parse.{meaning}
use Rattle.bindings.specs.Code.Source.{sources, tree_or0, env_of}
use Rattle.grammar.specs.Written.{tree_ops}
use Rattle.grammar.specs.Code.Texts.{text_of}
use Rattle.grammar.proofs.Written.{written-append, text_length}
use Rattle.writer.specs.Code.Overwrites.{Overwrites}
use Rattle.writer.proofs.Pieces.{overwrites_then}
use Rattle.emission.specs.Code.Emitted.{tree_between, MeansTree}
use Rattle.contract.specs.declared.CheckedContract as Code
use Rattle.scope.specs.declared.refusal.AssembleError.{AssembleError}
use Rattle.scope.specs.declared.refusal.AssembleError.TheVariants.{BadStem, OutputTooLong}
use Rattle.scope.specs.Part.{part}
use Rattle.contract.specs.Assembled.{assembled_tree}
use Rattle.numbered.specs.declared.Numbered.{Numbered}
use Rattle.base.specs.Outcome.{Outcome, is, refused}
use Rattle.scope.specs.Numbers.{assemble_error_numbered}
use Rattle.contract.specs.Code.Concluded.{Accepts, ConcludesBy, Concludes}
use Rattle.contract.specs.Output.{stem_fits, header, output, with_stem, assembled}
use Rattle.assembler.specs.Answers.{Assembles}

pub header-length : (stem : List ℕ) (e : ℕ) → length (header stem e) ≡ 26 + length stem + length (decimal e)
header-length stem e =
    let a : List ℕ = ascii "# contract: " in
    let b : List ℕ = 10 ∷ ascii "# expected: " in
    omega (arith, length-append (a ++ stem ++ b ++ decimal e) (10 ∷ []), length-append (a ++ stem ++ b) (decimal e), length-append (a ++ stem) b, length-append a stem)

-- its five pieces
module _ (stem : List ℕ) (e : ℕ) {out a b c d after : List ℕ} {i j k l r : ℕ} (h : length (header stem e) ≤ length out) where
  pub header_put : Overwrites out 0 (ascii "# contract: ") a i → Overwrites a i stem b j → Overwrites b j (10 ∷ ascii "# expected: ") c k → Overwrites c k (decimal e) d l → Overwrites d l (10 ∷ []) after r → Overwrites out 0 (header stem e) after r
  header_put p q s t u =
      let x : List ℕ = ascii "# contract: " in
      let y : List ℕ = 10 ∷ ascii "# expected: " in
      let n = header-length stem e in
      let one = length-append x stem in
      let two = length-append (x ++ stem) y in
      let three = length-append (x ++ stem ++ y) (decimal e) in
      overwrites_then (overwrites_then (overwrites_then (overwrites_then p (omega arith) q) (omega arith) s) (omega arith) t) (omega arith) u

abbrev pub halt_line : List ℕ
halt_line = ascii "Halt\n"

output_text : (stem : List ℕ) (e : ℕ) (t : Tree) → output stem e t ≡ (header stem e ++ text_of t) ++ halt_line
unfolding output
output_text stem e t =
    ap (λ (x : List ℕ). header stem e ++ x) (written-append (tree_ops t) (record { kind = 15; operand = 0 } ∷ []))
    ∙ sym (append_assoc (header stem e) (text_of t) halt_line)

pub output-length : (stem : List ℕ) (e : ℕ) (t : Tree) → length (output stem e t) ≡ length (header stem e) + len_of t + 5
output-length stem e t = omega (arith, ap length (output_text stem e t), length-append (header stem e ++ text_of t) halt_line, length-append (header stem e) (text_of t), text_length t)

-- what is concluded of the contract, by the answer
module _ {s vector : List ℕ} {o : Outcome Numbered (ℕ × Tree)} {x : Result Code.CheckedContract AssembleError} (c : Concludes s vector o x) where
  pub is_accepted : {a : Code.CheckedContract} → x ≡ Ok a → Accepts s vector o a
  is_accepted e = subst (ConcludesBy s vector o) e c.by

  pub is_refused : {why : AssembleError} → x ≡ Err why → (stem out : List ℕ) → Assembles (with_stem o stem (length out)) out out (Err why)
  is_refused {why} e stem out =
      let q : o ≡ refused (assemble_error_numbered why) = subst (ConcludesBy s vector o) e c.by in
      rw q (record { answer = refl; buffer = refl })

pub as_assembled : (contract vector stem : List ℕ) {out after : List ℕ} {r : Result Assembly AssembleError} → Assembles (with_stem (assembled_tree contract vector) stem (length out)) out after r → Assembles (assembled contract vector stem (length out)) out after r
unfolding assembled
as_assembled contract vector stem x = x

-- the stem does not fit
pub stem_refused : {s vector : List ℕ} {o : Outcome Numbered (ℕ × Tree)} {a : Code.CheckedContract} (stem out : List ℕ) → Accepts s vector o a → stem_fits stem ≡ false → Assembles (with_stem o stem (length out)) out out (Err BadStem)
stem_refused stem out acc f = rw acc.accepts (simp f (record { answer = refl; buffer = refl }))

module _ {s vector : List ℕ} {o : Outcome Numbered (ℕ × Tree)} {a : Code.CheckedContract} (acc : Accepts s vector o a) where
  between : part s a.returned.expr.start a.returned.expr.end ≡ drop a.returned.expr.start (take a.returned.expr.end s)
  between = take-drop_slice s a.returned.expr.start a.returned.expr.end acc.returned.ordered acc.returned.inside

  is_tree : meaning (env_of s (sources a.table a.values) a.returned.count) (drop a.returned.expr.start (take a.returned.expr.end s)) ≡ is acc.t
  is_tree = ap (meaning (env_of s (sources a.table a.values) a.returned.count)) (sym between) ∙ acc.returned.means

  same_tree : tree_between s (sources a.table a.values) a.returned.count a.returned.expr.start a.returned.expr.end ≡ acc.t
  same_tree = ap tree_or0 is_tree

  pub means : MeansTree s (sources a.table a.values) a.returned.count a.returned.expr.start a.returned.expr.end
  means = record {
    few = omega (arith, acc.returned.few, acc.reached.represents.holds.room);
    stand = λ i h. acc.reached.represents.stand i (omega (arith, acc.returned.few));
    inside = acc.returned.inside;
    is = is_tree ∙ ap is (sym same_tree);
  }

  pub text_size : length (text_of (tree_between s (sources a.table a.values) a.returned.count a.returned.expr.start a.returned.expr.end)) ≡ a.returned.read.len
  text_size = ap (λ (t : Tree). length (text_of t)) same_tree ∙ text_length acc.t ∙ sym acc.returned.figures.len

  module _ (stem out : List ℕ) (f : stem_fits stem ≡ true) where
    size : length (output stem a.expected acc.t) ≡ length (header stem a.expected) + a.returned.read.len + 5
    size = omega (arith, output-length stem a.expected acc.t, acc.returned.figures.len)

    pub no_room : length out < length (header stem a.expected) + a.returned.read.len + 5 → Assembles (with_stem o stem (length out)) out out (Err OutputTooLong)
    no_room h =
        let b = lt-leb (length (output stem a.expected acc.t)) (length out) (omega (arith, size)) in
        rw acc.accepts (simp (f, b) (record { answer = refl; buffer = refl }))

    pub written_whole : length (header stem a.expected) + a.returned.read.len + 5 ≤ length out
        → {mid after : List ℕ} {n w : ℕ}
        → Overwrites out 0 (header stem a.expected ++ text_of (tree_between s (sources a.table a.values) a.returned.count a.returned.expr.start a.returned.expr.end)) mid n
        → Overwrites mid n halt_line after w
        → Assembles (with_stem o stem (length out)) out after (Ok (record { written = w; k = a.returned.read.k; p = a.returned.read.p; value = a.expected }))
    written_whole h {mid} {after} {n} {w} p r =
        let b = le-leb (length (output stem a.expected acc.t)) (length out) (omega (arith, size)) in
        let y = length-append (header stem a.expected) (text_of (tree_between s (sources a.table a.values) a.returned.count a.returned.expr.start a.returned.expr.end)) in
        let x = overwrites_then p (omega (arith, y, text_size)) r in
        let e : (header stem a.expected ++ text_of (tree_between s (sources a.table a.values) a.returned.count a.returned.expr.start a.returned.expr.end)) ++ halt_line ≡ output stem a.expected acc.t = ap (λ (t : Tree). (header stem a.expected ++ text_of t) ++ halt_line) same_tree ∙ sym (output_text stem a.expected acc.t) in
        let z : Overwrites out 0 (output stem a.expected acc.t) after w = rw e at x in
        let m : w ≡ length (output stem a.expected acc.t) = omega (arith, z.next) in
        rw acc.accepts (simp (f, b) (record { answer = cc (m, acc.returned.figures.k, acc.returned.figures.p); buffer = z.is }))
