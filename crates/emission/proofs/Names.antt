-- A name that is found in the table has the tree of its binding.
use Rattle.std.specs.Prelude.{Option, Some, None}
use Prim.Native.Nat.{ℕ, zero, suc, ◌<◌}
use mathlib.Core.Path.{◌≡◌, refl, sym, subst, ◌∙◌}
use mathlib.Core.List.{List}
use mathlib.Core.Bool.{◌&&◌}
use native.Mathlib.Omega.{arith}
use borrow.Author.Tests.{le-leb}
use lib.Dec.{eqb}
use lib.ListN.{get_or}
use Rattle.base.specs.Equal.{equal}
use Rattle.base.proofs.Tests.{by_bool}
use Rattle.grammar.specs.Parse.{lookup}
use Rattle.bindings.specs.Code.Table.{tag_of, has_name, found}
use Rattle.bindings.specs.Code.Source.{Sources, name_of, env_of, tree_of, AllInText}
use Rattle.bindings.proofs.Tags.{tag_same}

module _ (s : List ℕ) (c : Sources) (w : List ℕ) where
  abbrev pub Looked : ℕ → Option ℕ → Type 0
  Looked n (Some i) = (i < n) × (lookup w (env_of s c n) ≡ Some (tree_of s c i))
  Looked n None = lookup w (env_of s c n) ≡ None

  older : (n : ℕ) (r : Option ℕ) → lookup w (env_of s c (suc n)) ≡ lookup w (env_of s c n) → Looked n r → Looked (suc n) r
  older n (Some i) e (l, q) = (omega arith, e ∙ q)
  older n None e q = e ∙ q

  pub looked : (n : ℕ) → AllInText s c n → Looked n (found n s c.names c.lens c.tags w)
  unfolding found env_of
  looked zero a = refl
  looked (suc n) a =
      let more = looked n (λ i l. a i (omega arith)) in
      let x = a n (omega arith) in
      let l : has_name s c.names c.lens c.tags n w ≡ (eqb (get_or c.tags n 0) (tag_of w) && equal w (name_of s c n)) = simp (le-leb _ _ x.name) in
      let q : has_name s c.names c.lens c.tags n w ≡ equal w (name_of s c n) = l ∙ tag_same (get_or c.tags n 0) w (name_of s c n) x.tag in
      by_bool (equal w (name_of s c n))
      (λ e.
      let f : found (suc n) s c.names c.lens c.tags w ≡ Some n = rw (q ∙ e, found) in
      subst (Looked (suc n)) (sym f) (omega arith, simp e))
      (λ e.
      let f : found (suc n) s c.names c.lens c.tags w ≡ found n s c.names c.lens c.tags w = rw (q ∙ e, found) in
      subst (Looked (suc n)) (sym f) (older n (found n s c.names c.lens c.tags w) (simp e) more))
