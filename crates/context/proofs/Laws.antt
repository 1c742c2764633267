-- The gate, by its two calls.
use Rattle.std.specs.Prelude.{Result, Ok, Err}
use Rattle.std.specs.Result.{result_and}
use Prim.Native.Nat.{ℕ}
use mathlib.Core.Path.{◌≡◌, refl, sym, ap}
use mathlib.Core.List.{List}
use mathlib.Core.Bool.{Bool, true, false}
use Rattle.base.specs.Ascii.{ascii}
use Rattle.base.specs.Equal.{equal}
use Rattle.base.specs.Need.{need}
use Rattle.base.proofs.Equal.{equal_refl}
use Rattle.context.specs.declared.ContextError.{ContextError}
use Rattle.context.specs.declared.ContextError.TheVariants.{InvalidChainId, InvalidNetworkId, InvalidGenesisId, ProtocolMismatch, VmMismatch}
use Rattle.context.specs.Gate.{is_network, is_genesis_id, genesis_of, gate_of}

need_then : (b : Bool) (e : ContextError) (x y g : Result (Unit {0}) ContextError) → x ≡ result_and y g → need b (Err e) x ≡ result_and (need b (Err e) y) g
need_then true e x y g h = h
need_then false e x y g h = refl

-- a genesis id is its own
pub own : (genesis : List ℕ) → genesis_of genesis genesis ≡ Ok tt
own genesis = rw (equal_refl genesis) refl

-- the context is valid, and then its genesis id is the computed one
pub valid_then : (chain network genesis protocol vm computed expected_protocol expected_vm : List ℕ)
    → gate_of chain network genesis protocol vm computed expected_protocol expected_vm ≡ result_and (gate_of chain network genesis protocol vm genesis expected_protocol expected_vm) (genesis_of genesis computed)
valid_then chain network genesis protocol vm computed expected_protocol expected_vm =
    let g = genesis_of genesis computed in
    need_then (equal chain (ascii "atc")) InvalidChainId _ _ g
    (need_then (is_network network) InvalidNetworkId _ _ g
    (need_then (is_genesis_id genesis) InvalidGenesisId _ _ g
    (need_then (equal protocol expected_protocol) ProtocolMismatch _ _ g
    (need_then (equal vm expected_vm) VmMismatch _ _ g (ap (λ (r : Result (Unit {0}) ContextError). result_and r g) (sym (own genesis)))))))
