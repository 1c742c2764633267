-- Meanings of worked expressions.
use mathlib.Core.Path.{◌≡◌, refl}
use mathlib.Core.List.{[], ◌∷◌, ◌++◌}
use Rattle.std.specs.Prelude.{Some, None}
use Prim.Native.String.{String}
use lib.ListN.{replicate}
use Rattle.numbered.specs.Numbered.{plain}
use Rattle.base.specs.Outcome.{is, refused}
use Rattle.decimal.specs.Decimal.{decimal}
use Rattle.word.specs.Apply.{add, sub, mul, eq, lt}
use Rattle.base.specs.Ascii.{ascii}
use Rattle.token.specs.Token.{scan}
use Rattle.grammar.specs.Tree.{Tree, num, bin}
use Rattle.grammar.specs.Parse.{Binding, Env, parse_f, meaning}
use Rattle.grammar.specs.Code.Meant.{ParseAnswer, figures, meaning_answer}
use Rattle.grammar.specs.Code.Texts.{text_of}

-- k, p, value and the text's length
abbrev answer : Env → String → ParseAnswer
answer env s = meaning_answer (meaning env (ascii s))

abbrev bind : String → Tree → Binding
bind s t = record { name = ascii s; tree = t }

precedence : answer [] "7 - 2 * 3" ≡ figures 3 3 (Some 1) 29
unfolding meaning parse_f scan decimal
precedence = refl

left_to_right_lem : answer [] "8 / 2 / 2" ≡ figures 3 2 (Some 2) 29
unfolding meaning parse_f scan decimal
left_to_right_lem = refl

wraps : answer [] "2-3" ≡ figures 2 2 (Some 18446744073709551615) 18
unfolding meaning parse_f scan decimal
wraps = refl

no_value : answer [] "(1 / 0) * 0" ≡ figures 3 2 None 29
unfolding meaning parse_f scan decimal
no_value = refl

-- the tally contract: a is 5 and b is 7
tally : Env
tally = bind "s" (bin add (num 5) (num 7)) ∷ bind "b" (num 7) ∷ bind "a" (num 5) ∷ []

tally-sum : meaning tally (ascii "a + b") ≡ is (bin add (num 5) (num 7))
unfolding meaning parse_f scan tally
tally-sum = refl

tally_return : answer tally "s * 2" ≡ figures 3 2 (Some 24) 29
unfolding meaning parse_f scan decimal tally
tally_return = refl

tally_text : text_of (bin mul (bin add (num 5) (num 7)) (num 2)) ≡ ascii "Push 5\nPush 7\nAdd\nPush 2\nMul\n"
unfolding decimal
tally_text = refl

-- signs that are bound
star : answer (bind "*" (num 5) ∷ []) "* * *" ≡ figures 2 2 (Some 25) 18
unfolding meaning parse_f scan decimal
star = refl

close_name : meaning (bind ")" (num 5) ∷ []) (ascii ")") ≡ is (num 5)
unfolding meaning parse_f scan
close_name = refl

close_inside : meaning (bind ")" (num 5) ∷ []) (ascii "())") ≡ is (num 5)
unfolding meaning parse_f scan
close_inside = refl

-- let a = 1, let b = a, let a = 2
newest : Env
newest = bind "a" (num 2) ∷ bind "b" (num 1) ∷ bind "a" (num 1) ∷ []

kept : meaning newest (ascii "b") ≡ is (num 1)
unfolding meaning parse_f scan newest
kept = refl

shadowed : meaning newest (ascii "a") ≡ is (num 2)
unfolding meaning parse_f scan newest
shadowed = refl

-- 64 parentheses are read, a 65th is refused
deep : meaning [] (replicate 64 40 ++ 49 ∷ replicate 64 41) ≡ is (num 1)
unfolding meaning parse_f scan
deep = refl

too_deep : meaning [] (replicate 65 40 ++ 49 ∷ replicate 65 41) ≡ refused (plain 18)
unfolding meaning parse_f scan
too_deep = refl

-- 13 comes before what is met from left to right
semicolon : meaning [] (ascii "a;") ≡ refused (plain 13)
unfolding meaning parse_f scan
semicolon = refl

empty : meaning [] [] ≡ refused (plain 14)
unfolding meaning parse_f scan
empty = refl

unclosed : meaning [] (ascii "(1") ≡ refused (plain 14)
unfolding meaning parse_f scan
unclosed = refl

-- a literal of 2 ^ 64: met as a factor, where `)` is due, left over
met : meaning [] (ascii "18446744073709551616") ≡ refused (plain 16)
unfolding meaning parse_f scan
met = refl

due_close : meaning [] (ascii "(1 18446744073709551616)") ≡ refused (plain 15)
unfolding meaning parse_f scan
due_close = refl

left_over : meaning [] (ascii "1 18446744073709551616") ≡ refused (plain 19)
unfolding meaning parse_f scan
left_over = refl

unknown : meaning [] (ascii "1 // c") ≡ refused (plain 17)
unfolding meaning parse_f scan
unknown = refl

-- request 101: one level for both signs, left to right, looser than sums
chain : meaning [] (ascii "1 < 2 == 1") ≡ is (bin eq (bin lt (num 1) (num 2)) (num 1))
unfolding meaning parse_f scan
chain = refl

chain_back : answer [] "0 == 1 < 1" ≡ figures 3 2 (Some 1) 27
unfolding meaning parse_f scan decimal
chain_back = refl

falling : answer [] "3 < 2 < 1" ≡ figures 3 2 (Some 1) 27
unfolding meaning parse_f scan decimal
falling = refl

thrice : answer [] "3 == 3 == 3" ≡ figures 3 2 (Some 0) 27
unfolding meaning parse_f scan decimal
thrice = refl

sums : meaning [] (ascii "1 + 2 < 4 - 1") ≡ is (bin lt (bin add (num 1) (num 2)) (bin sub (num 4) (num 1)))
unfolding meaning parse_f scan
sums = refl

product : meaning [] (ascii "1==2*3") ≡ is (bin eq (num 1) (bin mul (num 2) (num 3)))
unfolding meaning parse_f scan
product = refl

inner : meaning [] (ascii "2*(1<2)") ≡ is (bin mul (num 2) (bin lt (num 1) (num 2)))
unfolding meaning parse_f scan
inner = refl

-- a blank is chosen by power: 65 below 400, else 70
chooses : answer (bind "power" (num 399) ∷ []) "(power < 400) * 65 + (400 < power + 1) * 70" ≡ figures 7 4 (Some 65) 81
unfolding meaning parse_f scan decimal
chooses = refl

chooses_other : answer (bind "power" (num 400) ∷ []) "(power < 400) * 65 + (400 < power + 1) * 70" ≡ figures 7 4 (Some 70) 81
unfolding meaning parse_f scan decimal
chooses_other = refl

-- none on a side gives none
none_equal : answer [] "1/0 == 1/0" ≡ figures 4 3 None 39
unfolding meaning parse_f scan decimal
none_equal = refl

none_less : answer [] "1 < 1/0" ≡ figures 3 3 None 28
unfolding meaning parse_f scan decimal
none_less = refl

comparison_text : text_of (bin eq (bin lt (num 1) (num 2)) (num 1)) ≡ ascii "Push 1\nPush 2\nLt\nPush 1\nEq\n"
unfolding decimal
comparison_text = refl

-- a single `=` is in no token, wherever it stands
single : meaning [] (ascii "1 = 1") ≡ refused (plain 13)
unfolding meaning parse_f scan
single = refl

three_equals : meaning [] (ascii "1 === 1") ≡ refused (plain 13)
unfolding meaning parse_f scan
three_equals = refl

parted_equals : meaning [] (ascii "1 = = 1") ≡ refused (plain 13)
unfolding meaning parse_f scan
parted_equals = refl

less_or-equal : meaning [] (ascii "1 <= 1") ≡ refused (plain 13)
unfolding meaning parse_f scan
less_or-equal = refl

greater : meaning [] (ascii "1 >= 1") ≡ refused (plain 13)
unfolding meaning parse_f scan
greater = refl

-- what `let x == 5` and `let x === 5` leave behind the first `=`
let-two : meaning [] (ascii "= 5") ≡ refused (plain 13)
unfolding meaning parse_f scan
let-two = refl

let-three : meaning [] (ascii "== 5") ≡ refused (plain 17)
unfolding meaning parse_f scan
let-three = refl

-- two tokens, of which the second is no factor
four_equals : meaning [] (ascii "1 ==== 1") ≡ refused (plain 17)
unfolding meaning parse_f scan
four_equals = refl

less_equals : meaning [] (ascii "1 <== 1") ≡ refused (plain 17)
unfolding meaning parse_f scan
less_equals = refl

nothing_less : meaning [] (ascii "1 <") ≡ refused (plain 14)
unfolding meaning parse_f scan
nothing_less = refl

unclosed_equal : meaning [] (ascii "(1 == 1") ≡ refused (plain 14)
unfolding meaning parse_f scan
unclosed_equal = refl

due_less : meaning [] (ascii "(1 < 2 3)") ≡ refused (plain 15)
unfolding meaning parse_f scan
due_less = refl

-- both signs bound
less_bound : answer (bind "<" (num 5) ∷ []) "< < <" ≡ figures 2 2 (Some 0) 17
unfolding meaning parse_f scan decimal
less_bound = refl

equals_bound : answer (bind "==" (num 5) ∷ []) "== == ==" ≡ figures 2 2 (Some 1) 17
unfolding meaning parse_f scan decimal
equals_bound = refl

four_bound : meaning (bind "==" (num 5) ∷ []) (ascii "1 ==== 1") ≡ refused (plain 19)
unfolding meaning parse_f scan
four_bound = refl

-- a parameter named `=` is never met
single_bound : meaning (bind "=" (num 5) ∷ []) (ascii "=") ≡ refused (plain 13)
unfolding meaning parse_f scan
single_bound = refl
