-- Laws of the whole: the parameters, then the body, then the last return's value.
use Rattle.std.specs.Prelude.{Option, Some, None, Result, Ok, Err}
use Rattle.std.proofs.lemmas.Result.{IfOk-at_ok}
use Prim.Native.Nat.{ℕ, ◌≤◌}
use mathlib.Core.Path.{◌≡◌, refl, sym, ap, ap₂, subst, ◌∙◌}
use mathlib.Core.List.{List}
use mathlib.Core.Bool.{true, false}
use native.Mathlib.Omega.{arith}
use borrow.Author.Tests.{leb-true}
use lib.Dec.{eqb, leb}
use lib.ListN.{length, take}
use lib.Seq.{take_all}
use Rattle.base.specs.Ascii.{ascii}
use Rattle.base.specs.Outcome.{Outcome, is, refused, and_then}
use Rattle.base.proofs.Tests.{and_left, by_bool}
use Rattle.numbered.specs.declared.Numbered.{Numbered}
use Rattle.numbered.specs.Numbered.{plain}
use Rattle.utf8.specs.Utf8.{utf8}
use Rattle.lines.specs.Lines.{lines}
use Rattle.source.specs.declared.function.Places.{Places}
use Rattle.source.specs.declared.function.FunctionError.{FunctionError}
use Rattle.source.specs.Function.{function_of, function_error_numbered}
use Rattle.source.specs.Parameters.{parameters}
use Rattle.source.specs.Vector.{vector_number}
use Rattle.source.proofs.Places.{Ordered, ordered}
use Rattle.grammar.specs.Tree.{Tree, value_of}
use Rattle.bindings.specs.Code.Source.{sources}
use Rattle.scope.specs.declared.refusal.AssembleError.{AssembleError}
use Rattle.scope.specs.declared.state.Returned.{Returned}
use Rattle.scope.specs.declared.state.TableState as Code
use Rattle.scope.specs.Numbers.{assemble_error_numbered}
use Rattle.scope.specs.Part.{part}
use Rattle.scope.specs.Scope.{Scope, started, each}
use Rattle.scope.specs.Parameters.{keyed, parameter_bound}
use Rattle.scope.specs.Code.Stored.{no_bindings, no_values, nothing_yet}
use Rattle.scope.specs.Code.Held.{LastIs, ReturnIs, Represents, Represented, Simulates, SimulatesStep, Within, keyed_as}
use Rattle.scope.proofs.Tables.{holds_length}
use Rattle.scope.proofs.Sources.{env_none}
use Rattle.scope.proofs.Simulation.{by_leads, represents_later, leads_later}
use Rattle.body.specs.Body.{line_read}
use Rattle.body.specs.Code.LastReturn.{Place, Met, body_met, place_of, met_of, ReadsBody}
use Rattle.body.proofs.LastReturn.{all_made, no_place}
use Rattle.contract.specs.Assembled.{readable, body_read, compared, returned, function_read, places_of, assembled_tree}
use Rattle.contract.specs.Code.Concluded.{BodyReached, Accepts, Concludes, concluded, judged_value, judged, Located}

pub started_represents : (s : List ℕ) (a : Code.TableState) → a ≡ nothing_yet → Represents s a started
started_represents s a h = subst (λ (x : Code.TableState). Represents s x started) (sym h) (record {
  full = record { name_start = refl; name_len = refl; expr_start = refl; expr_len = refl; ks = refl; ps = refl; value = refl; none = refl; len = refl; tag = refl };
  holds = record { room = omega arith; told = tt };
  stand = λ i l. absurd (omega arith);
  sources = env_none s (sources no_bindings no_values) 0 refl;
  last = tt;
})

-- a refusal that is said to be another
same_refusal : {x : Result (Unit {0}) AssembleError} {o why : AssembleError} → x ≡ Err o → x ≡ Err why → o ≡ why
same_refusal e f = cc

-- the function's parts
module _ (s vector : List ℕ) (p : Places) (f : Located s p) where
  order : Ordered s p
  order = ordered s p f.found

  pub params_within : Within s p.params.start p.params.end
  params_within = let o = order in record { short = f.short; ordered = o.params; fits = omega (arith, o.between, o.body, o.fits, f.short); inside = omega (arith, o.between, o.body, o.fits) }

  pub body_within : Within s p.body.start p.body.end
  body_within = let o = order in record { short = f.short; ordered = o.body; fits = omega (arith, o.fits, f.short); inside = omega (arith, o.fits) }

  abbrev read_lines : Scope → Outcome Numbered Scope
  read_lines st = each line_read 1 st (lines (part s p.body.start p.body.end))

  -- the vector's expected value
  module _ {k : Result ℕ AssembleError} (e : keyed_as k ≡ keyed (vector_number vector (ascii "expected")) 0) where
    pub number_off : {why : AssembleError} → k ≡ Err why → function_read s vector p ≡ refused (assemble_error_numbered why)
    number_off q = ap (λ (x : Outcome Numbered ℕ). and_then x (λ n. concluded n (body_read s vector p))) (sym e ∙ ap keyed_as q)

    pub number_on : {n : ℕ} → k ≡ Ok n → function_read s vector p ≡ concluded n (body_read s vector p)
    number_on q = ap (λ (x : Outcome Numbered ℕ). and_then x (λ n. concluded n (body_read s vector p))) (sym e ∙ ap keyed_as q)

  pub concludes_off : (n : ℕ) {why : AssembleError} → function_read s vector p ≡ concluded n (body_read s vector p) → body_read s vector p ≡ refused (assemble_error_numbered why) → Concludes s vector (function_read s vector p) (Err why)
  concludes_off n e r = record { by = e ∙ ap (concluded n) r }

  -- the parameters, from the first state
  module _ {first a : Code.TableState} (h : first ≡ nothing_yet) {x : Result (Unit {0}) AssembleError}
      (g : SimulatesStep (take p.params.start s) first (λ st. each (parameter_bound vector) 1 st (parameters (part s p.params.start p.params.end))) (take p.params.end s) a x) where
    led : Simulates (take p.params.end s) a x (each (parameter_bound vector) 1 started (parameters (part s p.params.start p.params.end))) is
    led = g.leads started (started_represents (take p.params.start s) first h)

    pub params_off : {why : AssembleError} → x ≡ Err why → body_read s vector p ≡ refused (assemble_error_numbered why)
    params_off q =
        by_leads led
        (λ st o r e. cc)
        (λ other o e. ap (λ (u : Outcome Numbered Scope). and_then u read_lines) e ∙ ap (λ (w : AssembleError). refused (assemble_error_numbered w)) (same_refusal o q))

    module _ (b : x ≡ Ok tt) where
      pub params_represented : Represented (take p.body.start s) a
      params_represented =
          let o = order in
          by_leads led
          (λ st y q e. record { st = st; represents = represents_later s p.params.end p.body.start (omega (arith, o.between)) (omega (arith, o.body, o.fits)) q })
          (λ why y e. cc)

      -- the body's lines, from the parameters' state
      module _ {r : Code.TableState} {y : Result (Unit {0}) AssembleError} (k : SimulatesStep (take p.body.start s) a read_lines (take p.body.end s) r y) where
        body_led : Simulates s r y (body_read s vector p) is
        body_led =
            let o = order in
            by_leads led
            (λ st z q e.
            let x = k.leads st (represents_later s p.params.end p.body.start (omega (arith, o.between)) (omega (arith, o.body, o.fits)) q) in
            let v = leads_later s p.body.end (length s) (omega (arith, o.fits)) (omega arith) x in
            let w = subst (λ (t : List ℕ). Simulates t r y (read_lines st) is) (take_all (length s) s (omega arith)) v in
            subst (λ (u : Outcome Numbered Scope). Simulates s r y u is) (sym (ap (λ (u : Outcome Numbered Scope). and_then u read_lines) e)) w)
            (λ why z e. cc)

        pub body_off : {why : AssembleError} → y ≡ Err why → body_read s vector p ≡ refused (assemble_error_numbered why)
        body_off q = by_leads body_led (λ st o r e. cc) (λ other o e. e ∙ ap (λ (w : AssembleError). refused (assemble_error_numbered w)) (same_refusal o q))

        pub reached : {z : Result Code.TableState AssembleError} → ReadsBody s p.body.start p.body.end a z → z ≡ Ok r → y ≡ Ok tt → (q : BodyReached s vector r) × (q.places ≡ p)
        reached m i q =
            by_leads body_led
            (λ st o u e. (record { places = p; found = f.found; st = st; read = e; represents = u; place = ap (λ (m : Met). m.last) (IfOk-at_ok (λ (t : Code.TableState). met_of t ≡ body_met s p.body.start p.body.end (met_of a)) i m.is ∙ ap (body_met s p.body.start p.body.end) met) }, refl))
            (λ why o e. cc)
          where
            met : met_of a ≡ record { count = length (parameters (part s p.params.start p.params.end)); last = None }
            met =
                by_leads led
                (λ st o q e.
                let z = all_made vector 1 started (parameters (part s p.params.start p.params.end)) st e in
                ap₂ (λ (n : ℕ) (x : Option Place). record { count = n; last = x }) (sym (holds_length q.holds) ∙ z.count ∙ omega arith)
                (no_place _ a.table a.values a.last (subst (LastIs (take p.params.end s) a.table a.values a.last) z.last q.last)))
                (λ why o e. cc)

-- the last return's value and the expected one
module _ (expected : ℕ) (t : Tree) (l : Returned) where
  compared_off : {why : AssembleError} (v : Option ℕ) → judged_value l expected v ≡ Err why → compared expected t v ≡ refused (assemble_error_numbered why)
  compared_off None e = cc
  compared_off (Some n) e = by_bool (eqb n expected) (λ b. let z = rw b at e in cc) (λ b. let z = rw b at e in rw b cc)

  compared_on : {r : Returned} (v : Option ℕ) → judged_value l expected v ≡ Ok r → (compared expected t v ≡ is (expected, t)) × (l ≡ r)
  compared_on None e = cc
  compared_on (Some n) e = by_bool (eqb n expected) (λ b. let z = rw b at e in (rw b, cc)) (λ b. let z = rw b at e in cc)

-- what is made of the state a that the body has come to
module _ {s vector : List ℕ} {a : Code.TableState} {p : Places} (r : (q : BodyReached s vector a) × (q.places ≡ p)) (expected : ℕ) {o : Outcome Numbered (ℕ × Tree)} (f : o ≡ concluded expected (body_read s vector p)) where
  read_is : o ≡ returned expected r.0.st.last
  read_is = f ∙ ap (λ (x : Places). concluded expected (body_read s vector x)) (sym r.1) ∙ ap (concluded expected) r.0.read

  pub last_off : {why : AssembleError} → judged a.last expected ≡ Err why → Concludes s vector o (Err why)
  last_off {why} e = record { by = read_is ∙ go a.last r.0.st.last r.0.represents.last e }
    where
      go : (x : Option Returned) (y : Option Tree) → LastIs s a.table a.values x y → judged x expected ≡ Err why → returned expected y ≡ refused (assemble_error_numbered why)
      go None None h z = cc
      go None (Some t) h z = absurd h
      go (Some l) None h z = absurd h
      go (Some l) (Some t) h z = compared_off expected t l (value_of t) (ap (judged_value l expected) (sym h.figures.value) ∙ z)

  pub last_on : {l : Returned} → judged a.last expected ≡ Ok l → Concludes s vector o (Ok (record { table = a.table; values = a.values; returned = l; expected = expected }))
  last_on {l} e = record { by = go a.last r.0.st.last refl refl r.0.represents.last e }
    where
      go : (x : Option Returned) (y : Option Tree) → a.last ≡ x → r.0.st.last ≡ y → LastIs s a.table a.values x y → judged x expected ≡ Ok l
          → Accepts s vector o (record { table = a.table; values = a.values; returned = l; expected = expected })
      go None None m n h z = cc
      go None (Some t) m n h z = absurd h
      go (Some k) None m n h z = absurd h
      go (Some k) (Some t) m n h z =
          let w = compared_on expected t k (value_of t) (ap (judged_value k expected) (sym h.figures.value) ∙ z) in
          let u : ReturnIs s a.table a.values l t = subst (λ (r : Returned). ReturnIs s a.table a.values r t) w.1 h in
          record {
            reached = record {
              places = r.0.places;
              found = r.0.found;
              st = r.0.st;
              read = r.0.read;
              represents = record {
                full = r.0.represents.full;
                holds = r.0.represents.holds;
                stand = r.0.represents.stand;
                sources = r.0.represents.sources;
                last = subst (λ (o : Option Tree). LastIs s a.table a.values (Some l) o) (sym n) u;
              };
              place = ap place_of (sym (m ∙ ap (λ (r : Returned). Some r) w.1)) ∙ r.0.place;
            };
            t = t;
            last = n;
            returned = u;
            accepts = read_is ∙ ap (returned expected) n ∙ w.0;
          }

-- both texts are readable, or one is not
module _ (s vector : List ℕ) where
  pub no_contract : readable s ≡ false → assembled_tree s vector ≡ refused (plain 1)
  unfolding assembled_tree
  no_contract e = rw e

  module _ (e : readable s ≡ true) where
    pub no_vector : readable vector ≡ false → assembled_tree s vector ≡ refused (plain 2)
    unfolding assembled_tree
    no_vector f = rw (e, f)

    module _ (f : readable vector ≡ true) where
      pub both_readable : assembled_tree s vector ≡ and_then (places_of (function_of s)) (function_read s vector)
      unfolding assembled_tree
      both_readable = rw (e, f)

      pub no_function : {why : FunctionError} → function_of s ≡ Err why → assembled_tree s vector ≡ refused (function_error_numbered why)
      no_function q = both_readable ∙ ap (λ (x : Result Places FunctionError). and_then (places_of x) (function_read s vector)) q

      pub function_is : {p : Places} → function_of s ≡ Ok p → assembled_tree s vector ≡ function_read s vector p
      function_is q = both_readable ∙ ap (λ (x : Result Places FunctionError). and_then (places_of x) (function_read s vector)) q

pub readable_short : (s : List ℕ) → readable s ≡ true → length s ≤ 65536
readable_short s e = leb-true (length s) 65536 (and_left (leb (length s) 65536) (utf8 s) e)
