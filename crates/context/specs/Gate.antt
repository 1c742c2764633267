-- The chain gate: refusals 35 to 40 of document 01, in its order.
use Rattle.std.specs.Prelude.{ℕ, List, Bool, ◌&&◌, ◌||◌, eqb, length, Result, Ok, Err}
use Rattle.numbered.specs.declared.Numbered.{Numbered}
use Rattle.numbered.specs.Numbered.{plain, unit_numbered, result_numbered}
use Rattle.base.specs.Ascii.{ascii}
use Rattle.base.specs.Equal.{equal}
use Rattle.base.specs.Lists.{all}
use Rattle.base.specs.Need.{need}
use Rattle.base.specs.Range.{within}
use Rattle.context.specs.declared.ContextError.{ContextError}
use Rattle.context.specs.declared.Gate.{Gate}
use Rattle.context.specs.declared.ContextError.TheVariants.{InvalidChainId, InvalidNetworkId, InvalidGenesisId, ProtocolMismatch, VmMismatch, GenesisMismatch}

abbrev pub is_network : List ℕ → Bool
is_network s = (equal s (ascii "devnet") || equal s (ascii "testnet")) || equal s (ascii "mainnet")

-- 0 to 9, A to F, a to f
abbrev pub is_hex_digit : ℕ → Bool
is_hex_digit a = within 48 57 a || (within 65 70 a || within 97 102 a)

abbrev pub is_genesis_id : List ℕ → Bool
is_genesis_id s = eqb (length s) 64 && all is_hex_digit s

-- what a context's genesis id is beside the computed one
abbrev pub genesis_of : (genesis computed : List ℕ) → Result (Unit {0}) ContextError
genesis_of genesis computed = need (equal genesis computed) (Err GenesisMismatch) (Ok tt)

abbrev pub gate_of : (chain network genesis protocol vm computed expected_protocol expected_vm : List ℕ) → Result (Unit {0}) ContextError
gate_of chain network genesis protocol vm computed expected_protocol expected_vm =
    need (equal chain (ascii "atc")) (Err InvalidChainId)
    (need (is_network network) (Err InvalidNetworkId)
    (need (is_genesis_id genesis) (Err InvalidGenesisId)
    (need (equal protocol expected_protocol) (Err ProtocolMismatch)
    (need (equal vm expected_vm) (Err VmMismatch)
    (genesis_of genesis computed)))))

-- of a gate's texts
abbrev pub gate_at : Gate → Result (Unit {0}) ContextError
gate_at g =
    let c = g.context in
    gate_of c.chain_id.now c.network_id.now c.genesis_id.now c.protocol_version.now c.vm_version.now g.computed_genesis_id.now g.expected_protocol.now g.expected_vm.now

-- document 01's number of each case
abbrev pub context_error_numbered : ContextError → Numbered
context_error_numbered InvalidChainId = plain 35
context_error_numbered InvalidNetworkId = plain 36
context_error_numbered InvalidGenesisId = plain 37
context_error_numbered ProtocolMismatch = plain 38
context_error_numbered VmMismatch = plain 39
context_error_numbered GenesisMismatch = plain 40

abbrev pub gate_numbered : Result (Unit {0}) ContextError → Numbered
gate_numbered = result_numbered unit_numbered context_error_numbered
