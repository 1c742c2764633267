-- What the program says of a refusal: document 01's number, its words, and the key or the line that it carries.
use Rattle.std.specs.Prelude.{ℕ, zero, suc, List, [], ◌∷◌, ◌++◌, cond, get_or}
use Rattle.base.specs.Range.{within}
use Rattle.decimal.specs.Decimal.{decimal}
use Rattle.base.specs.Ascii.{ascii}
use Rattle.ops.specs.Ops.{nth_line}
use Rattle.numbered.specs.declared.Numbered.{Numbered}
use Rattle.scope.specs.declared.refusal.AssembleError.{AssembleError}
use Rattle.scope.specs.Numbers.{assemble_error_numbered}

-- by their numbers, from 1
abbrev pub words : List (List ℕ)
words =
    ascii "the contract exceeds 65,536 bytes or isn't UTF-8"
    ∷ ascii "the vector exceeds 65,536 bytes or isn't UTF-8"
    ∷ ascii "\"fn \" is absent"
    ∷ ascii "no ( follows \"fn \""
    ∷ ascii "no ) follows the ("
    ∷ ascii "no { follows the )"
    ∷ ascii "no } follows the {"
    ∷ ascii "the key in double quotes is absent from the vector"
    ∷ ascii "no : follows the key"
    ∷ ascii "no ASCII digit comes next after White_Space"
    ∷ ascii "the digit run exceeds 2^64 - 1"
    ∷ ascii "a let line has no ="
    ∷ ascii "a character of the expression is in no token"
    ∷ ascii "the expression ends where a factor or ) is due"
    ∷ ascii "another token is where ) is due"
    ∷ ascii "a literal met as a factor exceeds 2^64 - 1"
    ∷ ascii "the token met as a factor is no (, literal or bound name"
    ∷ ascii "a 65th parenthesis is open"
    ∷ ascii "tokens are left over"
    ∷ ascii "k of this expression exceeds 32,768"
    ∷ ascii "a 257th binding is made"
    ∷ ascii "no \"return \" line stands in the body"
    ∷ ascii "the return value is none"
    ∷ ascii "the return value differs from expected"
    ∷ ascii "the stem is empty, over 255 bytes, not UTF-8 or holds a line feed"
    ∷ ascii "the output is longer than the lent buffer"
    ∷ []

abbrev pub words_of : ℕ → List ℕ
words_of number = nth_line number words

-- the place of `expected` is 0
abbrev pub key_text : ℕ → List ℕ
key_text zero = ascii "expected"
key_text (suc n) = decimal (suc n)

-- 8 to 11 carry the key's place, 12 to 20 the line's number
abbrev pub carried_text : ℕ → ℕ → List ℕ
carried_text number value =
    cond (within 8 11 number) (ascii ", key " ++ key_text value)
    (cond (within 12 20 number) (ascii ", line " ++ decimal value) [])

abbrev pub message_of : ℕ → ℕ → List ℕ
message_of number value = ascii "assemble: " ++ decimal number ++ ascii ": " ++ words_of number ++ carried_text number value ++ (10 ∷ [])

abbrev pub refusal_message : Numbered → List ℕ
refusal_message r = message_of r.number (get_or r.words 0 0)

-- the same of the code's refusal
abbrev pub message : AssembleError → List ℕ
message why = refusal_message (assemble_error_numbered why)
