-- The code's name of a two-sided operation.
use Rattle.word.specs.declared.Operator.{Operator}
use Rattle.word.specs.declared.Operator.TheVariants.{Add, Sub, Mul, Div, Equal, Less}
use Rattle.word.specs.Apply.{Binary, add, sub, mul, div, eq, lt}

abbrev pub binary_of : Operator → Binary
binary_of Add = add
binary_of Sub = sub
binary_of Mul = mul
binary_of Div = div
binary_of Equal = eq
binary_of Less = lt
