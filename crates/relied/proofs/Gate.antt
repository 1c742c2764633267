-- What callers of the gate rely on.
use Rattle.std.specs.Prelude.{Result, Ok, Err}
use Prim.Native.Nat.{ℕ}
use mathlib.Core.Path.{◌≡◌, refl}
use mathlib.Core.Bool.{Bool, true, false}
use mathlib.Core.List.{List, [], ◌∷◌}
use Rattle.base.specs.Ascii.{ascii}
use Rattle.base.specs.Equal.{equal}
use Rattle.base.specs.Need.{need}
use Rattle.base.proofs.Tests.{false_true}
use Rattle.context.specs.declared.ContextError.{ContextError}
use Rattle.context.specs.declared.ContextError.TheVariants.{InvalidChainId, InvalidNetworkId, InvalidGenesisId, ProtocolMismatch, VmMismatch, GenesisMismatch}
use Rattle.context.specs.Gate.{is_network, is_genesis_id, gate_of, gate_numbered}
use Rattle.base.proofs.Equal.{equal_refl}
use Rattle.relied.specs.Numbers.{Among}

-- the `unreachable!` of `execution_gate`, and the header's "Gives 0, 35 to 40"
pub gate_gives : (g : Result (Unit {0}) ContextError) → Among (0 ∷ 35 ∷ 36 ∷ 37 ∷ 38 ∷ 39 ∷ 40 ∷ []) (gate_numbered g).number
gate_gives (Ok tt) = refl
gate_gives (Err InvalidChainId) = refl
gate_gives (Err InvalidNetworkId) = refl
gate_gives (Err InvalidGenesisId) = refl
gate_gives (Err ProtocolMismatch) = refl
gate_gives (Err VmMismatch) = refl
gate_gives (Err GenesisMismatch) = refl

-- `ChainContext::validate` hands the context's own genesis id over as the computed one: no 40
abbrev Validates : Result (Unit {0}) ContextError → Type 0
Validates g = Among (0 ∷ 35 ∷ 36 ∷ 37 ∷ 38 ∷ 39 ∷ []) (gate_numbered g).number

need_validates : (b : Bool) (e : ContextError) (g : Result (Unit {0}) ContextError) → Validates (Err e) → Validates g → Validates (need b (Err e) g)
need_validates true e g p q = q
need_validates false e g p q = p

pub validate_gives : (chain network genesis protocol vm expected_protocol expected_vm : List ℕ)
    → Among (0 ∷ 35 ∷ 36 ∷ 37 ∷ 38 ∷ 39 ∷ [])
    (gate_numbered (gate_of chain network genesis protocol vm genesis expected_protocol expected_vm)).number
validate_gives chain network genesis protocol vm expected_protocol expected_vm =
    need_validates (equal chain (ascii "atc")) InvalidChainId _ refl
    (need_validates (is_network network) InvalidNetworkId _ refl
    (need_validates (is_genesis_id genesis) InvalidGenesisId _ refl
    (need_validates (equal protocol expected_protocol) ProtocolMismatch _ refl
    (need_validates (equal vm expected_vm) VmMismatch _ refl (go (equal genesis genesis) (equal_refl genesis))))))
  where
    go : (b : Bool) → b ≡ true → Validates (need b (Err GenesisMismatch) (Ok tt))
    go true e = refl
    go false e = false_true e
