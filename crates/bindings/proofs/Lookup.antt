-- Texts that are the same, and the newest binding of a name.
use Rattle.std.specs.Prelude.{Option, Some, None}
use Prim.Native.Nat.{ℕ, zero, suc, ◌+◌, ◌-◌, ◌<◌, ◌≤◌}
use mathlib.Core.Path.{◌≡◌, refl, sym, ap, subst, ◌∙◌}
use mathlib.Core.List.{List, [], ◌∷◌}
use mathlib.Core.Bool.{Bool, true, false, ◌&&◌}
use native.Mathlib.Omega.{arith}
use borrow.Author.Tests.{eq-eqb, ne_eqb, le-leb, lt-leb}
use lib.Dec.{eqb, leb}
use lib.ListN.{length, get_or, take, drop}
use lib.Pointwise.{pointwise}
use Rattle.base.specs.Equal.{equal}
use Rattle.base.proofs.Tests.{by_bool}
use Rattle.grammar.specs.Parse.{Binding, Env, lookup}
use Rattle.bindings.specs.declared.names.Known.{Known}
use Rattle.bindings.specs.Code.Table.{Columns, entry_at, RowFor, RowsFor, tag_of, has_name, found}
use Rattle.bindings.proofs.Tags.{tag_same}

-- what `==` of slices tests
pub pointwise_equal : (v w : List ℕ) → pointwise eqb v w ≡ equal v w
pointwise_equal [] [] = refl
pointwise_equal [] (b ∷ w) = refl
pointwise_equal (a ∷ v) [] = refl
pointwise_equal (a ∷ v) (b ∷ w) = ap (λ (e : Bool). eqb a b && e) (pointwise_equal v w)

-- binding i by its tag, and by its name where it has the tag
module _ (s names lens tags w : List ℕ) (i : ℕ) {t : ℕ} (g : t ≡ tag_of w) where
  pub called_other : (get_or tags i 0 ≡ t → ⊥) → false ≡ has_name s names lens tags i w
  called_other h = sym (simp (ne_eqb (get_or tags i 0) (tag_of w) (λ x. h (x ∙ sym g))))

  module _ (h : get_or tags i 0 ≡ t) {a n : ℕ} (p : a ≡ get_or names i 0) (q : n ≡ get_or lens i 0) where
    called_name : (leb (a + n) (length s) && equal w (take n (drop a s))) ≡ has_name s names lens tags i w
    called_name = rw (p, q) (sym (simp (eq-eqb (get_or tags i 0) (tag_of w) (h ∙ g))))

    pub called_outside : length s < a + n → false ≡ has_name s names lens tags i w
    called_outside o = sym (simp (lt-leb (a + n) (length s) o)) ∙ called_name

    pub called_by : a + n ≤ length s → pointwise eqb w (take ((a + n) - a) (drop a s)) ≡ has_name s names lens tags i w
    called_by o =
        let z : (a + n) - a ≡ n = omega arith in
        pointwise_equal w (take ((a + n) - a) (drop a s)) ∙ ap (λ (m : ℕ). equal w (take m (drop a s))) z ∙ sym (simp (le-leb (a + n) (length s) o)) ∙ called_name

-- the newest of the first n bindings
abbrev pub found_among : Known → ℕ → List ℕ → Option ℕ
found_among k n w = found n k.text.now k.table.now.name_start k.table.now.name_len k.values.now.tag w

-- the newest binding, from the last on
module _ (s names lens tags w : List ℕ) (n : ℕ) (h : 0 < n) where
  one_less : n ≡ suc (n - 1)
  one_less = omega arith

  pub found_here : has_name s names lens tags (n - 1) w ≡ true → found n s names lens tags w ≡ Some (n - 1)
  unfolding found
  found_here e = ap (λ (x : ℕ). found x s names lens tags w) one_less ∙ rw (e, found)

  pub found_older : has_name s names lens tags (n - 1) w ≡ false → found n s names lens tags w ≡ found (n - 1) s names lens tags w
  unfolding found
  found_older e = ap (λ (x : ℕ). found x s names lens tags w) one_less ∙ rw (e, found)

pub found_none : (s names lens tags w : List ℕ) (n : ℕ) → n ≤ 0 → found n s names lens tags w ≡ None
unfolding found
found_none s names lens tags w n h = let e : n ≡ 0 = omega arith in ap (λ (x : ℕ). found x s names lens tags w) e

pub found_below : (s names lens tags w : List ℕ) (n i : ℕ) → found n s names lens tags w ≡ Some i → i < n
unfolding found
found_below s names lens tags w zero i e = absurd (let z : ◌≡◌ {A = ℕ} 0 1 = cc in omega arith)
found_below s names lens tags w (suc n) i e =
    let more = found_below s names lens tags w n i in
    by_bool (has_name s names lens tags n w)
    (λ t. let p : Some n ≡ Some i = sym (rw (t, found)) ∙ e in let q : n ≡ i = cc in omega arith)
    (λ t. let m = more (sym (rw (t, found)) ∙ e) in omega arith)

pub known_below : (k : Known) (w : List ℕ) (i : ℕ) → found_among k k.count w ≡ Some i → i < k.count
known_below k w i e = found_below k.text.now k.table.now.name_start k.table.now.name_len k.values.now.tag w k.count i e

-- what is found in a table that holds an environment is what the environment has
abbrev pub Looked : List ℕ → Columns → Env → List ℕ → Option ℕ → Type 0
Looked s c env w (Some i) = (b : Binding) × (RowFor s (entry_at c i) b × (lookup w env ≡ Some b.tree))
Looked s c env w None = lookup w env ≡ None

called_as : (s : List ℕ) (c : Columns) (i : ℕ) (b : Binding) (w : List ℕ) → RowFor s (entry_at c i) b → has_name s c.names c.lens c.tags i w ≡ equal w b.name
called_as s c i b w t =
    let l : has_name s c.names c.lens c.tags i w ≡ (eqb (get_or c.tags i 0) (tag_of w) && equal w (take (get_or c.lens i 0) (drop (get_or c.names i 0) s))) = ap (λ (x : Bool). eqb (get_or c.tags i 0) (tag_of w) && (x && equal w (take (get_or c.lens i 0) (drop (get_or c.names i 0) s)))) (le-leb _ _ t.inside) in
    l ∙ ap (λ (n : List ℕ). eqb (get_or c.tags i 0) (tag_of w) && equal w n) (sym t.name) ∙ tag_same (get_or c.tags i 0) w b.name t.tag

older : (s : List ℕ) (c : Columns) (env env' : Env) (w : List ℕ) (r : Option ℕ) → lookup w env' ≡ lookup w env → Looked s c env w r → Looked s c env' w r
older s c env env' w (Some i) e (b, (t, q)) = (b, (t, e ∙ q))
older s c env env' w None e q = e ∙ q

pub looked : (s : List ℕ) (c : Columns) (n : ℕ) (env : Env) (w : List ℕ) → RowsFor s c n env → Looked s c env w (found n s c.names c.lens c.tags w)
unfolding found
looked s c zero [] w t = refl
looked s c zero (b ∷ env) w t = absurd t
looked s c (suc n) [] w t = absurd t
looked s c (suc n) (b ∷ env) w (tells, told) =
    let more = looked s c n env w told in
    let q = called_as s c n b w tells in
    by_bool (equal w b.name)
    (λ e. let f : found (suc n) s c.names c.lens c.tags w ≡ Some n = rw (q ∙ e, found) in
    subst (Looked s c (b ∷ env) w) (sym f) (b, (tells, simp e)))
    (λ e. let f : found (suc n) s c.names c.lens c.tags w ≡ found n s c.names c.lens c.tags w = rw (q ∙ e, found) in
    subst (Looked s c (b ∷ env) w) (sym f) (older s c env (b ∷ env) w (found n s c.names c.lens c.tags w) (simp e) more))
