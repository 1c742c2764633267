-- The encoding of characters by RFC 3629, section 3.
use Rattle.std.specs.Prelude.{ℕ, ◌+◌, ◌/◌, ◌%◌, ◌≡◌, List, [], ◌∷◌, ◌++◌, Bool, true, cond, ◌||◌, leb}
use Rattle.base.specs.Range.{within}
use Rattle.base.specs.Lists.{all}

-- U+0000 to U+10FFFF without the surrogates, U+D800 to U+DFFF
abbrev pub scalar : ℕ → Bool
scalar c = leb c 0xD7FF || within 0xE000 0x10FFFF c

abbrev pub encode2 : ℕ → List ℕ
encode2 c = (0xC0 + c / 64) ∷ (0x80 + c % 64) ∷ []

abbrev pub encode3 : ℕ → List ℕ
encode3 c = (0xE0 + c / 4096) ∷ (0x80 + c / 64 % 64) ∷ (0x80 + c % 64) ∷ []

abbrev pub encode4 : ℕ → List ℕ
encode4 c = (0xF0 + c / 262144) ∷ (0x80 + c / 4096 % 64) ∷ (0x80 + c / 64 % 64) ∷ (0x80 + c % 64) ∷ []

-- 0xxxxxxx; 110xxxxx 10xxxxxx; 1110xxxx 10xxxxxx 10xxxxxx; 11110xxx 10xxxxxx 10xxxxxx 10xxxxxx
abbrev pub encode : ℕ → List ℕ
encode c = cond (leb c 0x7F) (c ∷ []) (cond (leb c 0x7FF) (encode2 c) (cond (leb c 0xFFFF) (encode3 c) (encode4 c)))

abbrev pub encodes : List ℕ → List ℕ
encodes [] = []
encodes (c ∷ cs) = encode c ++ encodes cs

-- a text is UTF-8 where it is the encoding of characters
abbrev pub Valid : List ℕ → Type 0
Valid s = (cs : List ℕ) × (all scalar cs ≡ true) × (s ≡ encodes cs)
