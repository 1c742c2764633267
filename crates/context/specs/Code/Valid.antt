-- A context alone, without a computed genesis id.
use Rattle.std.specs.Prelude.{ℕ, List, Result}
use Rattle.context.specs.declared.ContextError.{ContextError}
use Rattle.context.specs.declared.ChainContext.{ChainContext}
use Rattle.context.specs.Gate.{gate_of}

-- what a context is beside the versions that are expected: the gate's answer where its own genesis id is the computed one
abbrev pub valid_of : ChainContext → (expected_protocol expected_vm : List ℕ) → Result (Unit {0}) ContextError
valid_of c expected_protocol expected_vm =
    gate_of c.chain_id.now c.network_id.now c.genesis_id.now c.protocol_version.now c.vm_version.now c.genesis_id.now expected_protocol expected_vm
