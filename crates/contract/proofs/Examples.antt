-- Worked contracts.
use Rattle.std.specs.Prelude.{Some}
use Prim.Native.Nat.{ℕ}
use mathlib.Core.Path.{◌≡◌, refl}
use mathlib.Core.List.{List, [], ◌∷◌}
use lib.ListN.{replicate}
use Rattle.word.specs.Apply.{add, mul}
use Rattle.token.specs.Token.{scan}
use Rattle.grammar.specs.Tree.{Tree, num, bin, value_of, k_of, p_of}
use Rattle.grammar.specs.Parse.{parse_f, meaning}
use Rattle.base.specs.Ascii.{ascii}
use Rattle.numbered.specs.Numbered.{plain, carrying}
use Rattle.scope.specs.Scope.{started, each}
use Rattle.base.specs.Outcome.{is, refused}
use Rattle.body.specs.Body.{line_read}
use Rattle.decimal.specs.Decimal.{decimal}
use Rattle.contract.specs.Assembled.{assembled_tree}
use Rattle.body.specs.Code.LastReturn.{lines_met, last_return}
use Rattle.contract.specs.Output.{nothing, output, assembled}

-- document 01's bench example
tally : List ℕ
tally = ascii "fn total (a, b) {\n  let s = a + b\n  return s * 2\n}\n"

-- `{"a": 5, "b": 7, "expected": 24}`
tally_vector : List ℕ
tally_vector = ascii "{\"a\": 5, \"b\": 7, \"expected\": 24}"

tally_tree : Tree
tally_tree = bin mul (bin add (num 5) (num 7)) (num 2)

tally-assembled : assembled_tree tally tally_vector ≡ is (24, tally_tree)
unfolding assembled_tree each meaning parse_f scan tally tally_vector tally_tree
tally-assembled = refl

tally_figures : (k_of tally_tree ≡ 3) × ((p_of tally_tree ≡ 2) × (value_of tally_tree ≡ Some 24))
unfolding tally_tree
tally_figures = (refl, (refl, refl))

-- `let a = 1`, `let b = a`, `let a = 2`, `return b`
kept_meaning : assembled_tree (ascii "fn f(){let a = 1\nlet b = a\nlet a = 2\nreturn b}") (ascii "\"expected\":1") ≡ is (1, num 1)
unfolding assembled_tree each meaning parse_f scan
kept_meaning = refl

-- `let x = 1`, `let x = x`, `return x`: the expression sees the older `x`
older_name : assembled_tree (ascii "fn f(){let x = 1\nlet x = x\nreturn x}") (ascii "\"expected\":1") ≡ is (1, num 1)
unfolding assembled_tree each meaning parse_f scan
older_name = refl

-- `let z = 1 / 0`, `return 1`
unused_division : assembled_tree (ascii "fn f(){let z = 1 / 0\nreturn 1}") (ascii "\"expected\":1") ≡ is (1, num 1)
unfolding assembled_tree each meaning parse_f scan
unused_division = refl

-- `return a;` on line 2
semicolon : assembled_tree (ascii "fn f(){let a = 1\nreturn a;}") (ascii "\"expected\":1") ≡ refused (carrying 13 (2 ∷ []))
unfolding assembled_tree each meaning parse_f scan
semicolon = refl

-- `let x = 1 // c` on line 3, behind an empty line and one that is a remark
remark : assembled_tree (ascii "fn f(){\n// r\nlet x = 1 // c}") (ascii "\"expected\":1") ≡ refused (carrying 17 (3 ∷ []))
unfolding assembled_tree each meaning parse_f scan
remark = refl

-- `return 2`, `return 1`
last_return_lem : assembled_tree (ascii "fn f(){return 2\nreturn 1}") (ascii "\"expected\":1") ≡ is (1, num 1)
unfolding assembled_tree each meaning parse_f scan
last_return_lem = refl

-- `return`, a tab and `1` is skipped
tab : assembled_tree (ascii "fn f(){return\t1}") (ascii "\"expected\":1") ≡ refused (plain 22)
unfolding assembled_tree each meaning parse_f scan
tab = refl

-- `return 1 / 0`, an unused `return` too
no_value : assembled_tree (ascii "fn f(){return 1 / 0\nreturn 1 / 0}") (ascii "\"expected\":1") ≡ refused (plain 23)
unfolding assembled_tree each meaning parse_f scan
no_value = refl

-- `return 2`
not_expected : assembled_tree (ascii "fn f(){return 2}") (ascii "\"expected\":1") ≡ refused (plain 24)
unfolding assembled_tree each meaning parse_f scan
not_expected = refl

-- `let x 1` on line 1
no_equals_lem : assembled_tree (ascii "fn f(){let x 1}") (ascii "\"expected\":1") ≡ refused (carrying 12 (1 ∷ []))
unfolding assembled_tree each meaning parse_f scan
no_equals_lem = refl

-- `let ) = 1`, `return )`
parenthesis_name : assembled_tree (ascii "fn f(){let ) = 1\nreturn )}") (ascii "\"expected\":1") ≡ is (1, num 1)
unfolding assembled_tree each meaning parse_f scan
parenthesis_name = refl

-- `12.5` in the vector
fraction : assembled_tree (ascii "fn f(a){return a}") (ascii "\"a\":12.5,\"expected\":12") ≡ is (12, num 12)
unfolding assembled_tree each meaning parse_f scan
fraction = refl

-- a place counts the parameters that are kept
kept_places : assembled_tree (ascii "fn f(a,,b:u64){return a}") (ascii "\"a\":1,\"b\":x,\"expected\":1") ≡ refused (carrying 10 (2 ∷ []))
unfolding assembled_tree each meaning parse_f scan
kept_places = refl

-- `expected` has the place 0
no_expected : assembled_tree (ascii "fn f(a){}") ([]) ≡ refused (carrying 8 (0 ∷ []))
unfolding assembled_tree each meaning parse_f scan
no_expected = refl

-- no `}`
unclosed : assembled_tree (ascii "fn f(a){") (ascii "\"expected\":1") ≡ refused (plain 7)
unfolding assembled_tree each meaning parse_f scan
unclosed = refl

-- bytes that are no UTF-8, as contract and as vector
not_utf8 : (assembled_tree (0xFF ∷ []) [] ≡ refused (plain 1)) × (assembled_tree [] (0xFF ∷ []) ≡ refused (plain 2))
unfolding assembled_tree
not_utf8 = (refl, refl)

-- 256 times `let x=1`, and once more
bindings_all : each line_read 1 started (replicate 257 (ascii "let x=1")) ≡ refused (plain 21)
unfolding each meaning parse_f scan
bindings_all = refl

-- E1 of document 01: the whole text
tally-output : assembled tally tally_vector (ascii "tally") 4096 ≡ record {
  answer = carrying 0 (67 ∷ 3 ∷ 2 ∷ 24 ∷ []);
  text = ascii "# contract: tally\n# expected: 24\nPush 5\nPush 7\nAdd\nPush 2\nMul\nHalt\n";
}
unfolding assembled output decimal assembled_tree each meaning parse_f scan tally tally_vector
tally-output = refl

-- one byte too few, a stem with a line feed, an empty stem
no_room : assembled tally tally_vector (ascii "tally") 66 ≡ nothing (plain 26)
unfolding assembled output decimal assembled_tree each meaning parse_f scan tally tally_vector
no_room = refl

feed_in_stem : assembled tally tally_vector (ascii "a\nb") 4096 ≡ nothing (plain 25)
unfolding assembled output decimal assembled_tree each meaning parse_f scan tally tally_vector
feed_in_stem = refl

no_stem : assembled tally tally_vector [] 0 ≡ nothing (plain 25)
unfolding assembled output decimal assembled_tree each meaning parse_f scan tally tally_vector
no_stem = refl

-- `1` stands twice: the last return is the second, with one binding before its line
second_one : last_return (ascii "fn f(){let b = 1\nreturn 1 }") (record { params = record { start = 5; end = 5 }; body = record { start = 7; end = 26 } }) ≡ Some (record { start = 24; end = 25; count = 1; next = 25 })
unfolding lines_met
second_one = refl
