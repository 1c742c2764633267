-- What the definitions give, computed.
use mathlib.Core.Path.{◌≡◌, refl}
use Prim.Native.Nat.{ℕ}
use mathlib.Core.List.{List, [], ◌∷◌}
use Rattle.base.specs.Ascii.{ascii}
use Rattle.base.specs.Outcome.{is}
use Rattle.numbered.specs.declared.Numbered.{Numbered}
use Rattle.numbered.specs.Numbered.{plain, carrying}
use Rattle.kinds.specs.Kinds.{operation}
use Rattle.ops.specs.Numbers.{parsed_ops_numbered}
use Rattle.ops.specs.Ops.{read_text, answer_of}

-- document 01's tally
tally :
    read_text (ascii "# contract: tally\n# expected: 24\nPush 5\nPush 7\nAdd\nPush 2\nMul\nHalt\n") 6
    ≡ is
    (operation 0 5
    ∷ operation 0 7
    ∷ operation 1 0
    ∷ operation 0 2
    ∷ operation 3 0
    ∷ operation 15 0
    ∷ [])
tally = refl

-- document 01's number of what is read, and the values
abbrev said : List ℕ → ℕ → Numbered
said text room = parsed_ops_numbered (answer_of (read_text text room))

-- E7
plus_five : read_text (ascii "Push +5") 1 ≡ is (operation 0 5 ∷ [])
plus_five = refl

plus_five_said : said (ascii "Push +5") 1 ≡ carrying 0 (1 ∷ [])
plus_five_said = refl

minus_zero : said (ascii "Push -0") 1 ≡ carrying 28 (1 ∷ 5 ∷ 2 ∷ [])
minus_zero = refl

-- E8
push_alone : said (ascii "Push") 1 ≡ carrying 30 (1 ∷ 0 ∷ 4 ∷ [])
push_alone = refl

-- the places of the parts, behind lines that are skipped but counted
slot : said (ascii "# x\n\n \tLoad  x1 \r\n") 1 ≡ carrying 29 (3 ∷ 13 ∷ 2 ∷ [])
slot = refl

unknown : said (ascii "# x\nx") 1 ≡ carrying 30 (2 ∷ 4 ∷ 1 ∷ [])
unknown = refl

target : said (ascii "Add\nJumpIfZero +") 1 ≡ carrying 31 (2 ∷ 15 ∷ 1 ∷ [])
target = refl

tab : said (ascii "Push\t5") 1 ≡ carrying 30 (1 ∷ 0 ∷ 6 ∷ [])
tab = refl

-- a bad line comes before a full buffer, a full buffer before what follows
full : said (ascii "Add\n\nAdd\nx") 1 ≡ carrying 32 (3 ∷ [])
full = refl

bad_first : said (ascii "Add\nPush 18446744073709551616") 1 ≡ carrying 28 (2 ∷ 9 ∷ 20 ∷ [])
bad_first = refl

none : said (ascii " \n# Add\n") 0 ≡ plain 33
none = refl

not_utf8 : said (255 ∷ []) 0 ≡ plain 27
not_utf8 = refl
