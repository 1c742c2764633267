-- RFC 3629, section 7, and the sequences that its sections 3 and 10 warn of.
use mathlib.Core.Path.{◌≡◌, refl}
use mathlib.Core.List.{[], ◌∷◌}
use mathlib.Core.Bool.{true, false}
use Rattle.utf8.specs.Utf8.{utf8}
use Rattle.utf8.specs.Encode.{encodes, scalar}

-- "A<NOT IDENTICAL TO><ALPHA>."
not_identical : encodes (0x41 ∷ 0x2262 ∷ 0x391 ∷ 0x2E ∷ []) ≡ 0x41 ∷ 0xE2 ∷ 0x89 ∷ 0xA2 ∷ 0xCE ∷ 0x91 ∷ 0x2E ∷ []
not_identical = refl

not_identical_valid : utf8 (0x41 ∷ 0xE2 ∷ 0x89 ∷ 0xA2 ∷ 0xCE ∷ 0x91 ∷ 0x2E ∷ []) ≡ true
not_identical_valid = refl

-- "hangugeo", "nihongo"
hangugeo : encodes (0xD55C ∷ 0xAD6D ∷ 0xC5B4 ∷ []) ≡ 0xED ∷ 0x95 ∷ 0x9C ∷ 0xEA ∷ 0xB5 ∷ 0xAD ∷ 0xEC ∷ 0x96 ∷ 0xB4 ∷ []
hangugeo = refl

nihongo : encodes (0x65E5 ∷ 0x672C ∷ 0x8A9E ∷ []) ≡ 0xE6 ∷ 0x97 ∷ 0xA5 ∷ 0xE6 ∷ 0x9C ∷ 0xAC ∷ 0xE8 ∷ 0xAA ∷ 0x9E ∷ []
nihongo = refl

-- U+233B4 after a byte order mark
stump : encodes (0xFEFF ∷ 0x233B4 ∷ []) ≡ 0xEF ∷ 0xBB ∷ 0xBF ∷ 0xF0 ∷ 0xA3 ∷ 0x8E ∷ 0xB4 ∷ []
stump = refl

-- an overlong NUL, a surrogate, a code point past U+10FFFF
overlong : utf8 (0xC0 ∷ 0x80 ∷ []) ≡ false
overlong = refl

surrogate : utf8 (0xED ∷ 0xA1 ∷ 0x8C ∷ []) ≡ false
surrogate = refl

past : utf8 (0xF4 ∷ 0x90 ∷ 0x80 ∷ 0x80 ∷ []) ≡ false
past = refl

no_surrogate : scalar 0xD800 ≡ false
no_surrogate = refl
