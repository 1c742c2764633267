-- Worked examples, by computing the definition.
use Prim.Native.Nat.{ℕ}
use mathlib.Core.Path.{◌≡◌, refl}
use mathlib.Core.List.{List, []}
use lib.ListN.{replicate}
use Rattle.base.specs.Ascii.{ascii}
use Rattle.context.specs.Gate.{gate_of, gate_numbered}

-- a context whose versions are `1` and `2` and whose genesis id is 64 times a, with the computed genesis id
abbrev number_at : (network : List ℕ) (a : ℕ) (protocol vm computed : List ℕ) → ℕ
number_at network a protocol vm computed = (gate_numbered (gate_of (ascii "atc") network (replicate 64 a) protocol vm computed (ascii "1") (ascii "2"))).number

passed : number_at (ascii "testnet") 65 (ascii "1") (ascii "2") (replicate 64 65) ≡ 0
passed = refl

-- E10 of document 01: 64 `A` against 64 `a`
e10 : number_at (ascii "mainnet") 65 (ascii "1") (ascii "2") (replicate 64 97) ≡ 40
e10 = refl

no_hex_digit : number_at (ascii "devnet") 71 (ascii "1") (ascii "2") (replicate 64 71) ≡ 37
no_hex_digit = refl

-- the protocol is compared before the VM version
both_differ : number_at (ascii "devnet") 65 [] [] (replicate 64 65) ≡ 38
both_differ = refl

vm_differs : number_at (ascii "devnet") 65 (ascii "1") [] [] ≡ 39
vm_differs = refl

no_network : number_at [] 65 [] [] [] ≡ 36
no_network = refl
