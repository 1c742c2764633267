-- What the program writes of an assembly: its text to standard output, or the message of its refusal to standard error.
use Rattle.std.specs.Prelude.{ℕ, ◌≤◌, ◌≡◌, List, [], eqb, length, take, Result, Ok, Err, IfOk}
use Rattle.base.specs.Need.{need}
use Rattle.contract.specs.Output.{Assembly}
use Rattle.scope.specs.declared.refusal.AssembleError.{AssembleError}
use Rattle.assemble.specs.Message.{refusal_message, message}

pub record Streams : Type 0 where
  pub output : List ℕ
  pub error : List ℕ

abbrev pub answered : Assembly → Streams
answered a =
    need (eqb a.answer.number 0) (record { output = []; error = refusal_message a.answer }) (record { output = a.text; error = [] })

-- the first bytes of a buffer, or what a refusal is displayed as
abbrev pub said : Result ℕ AssembleError → List ℕ → Streams
said (Ok n) out = record { output = take n out; error = [] }
said (Err why) out = record { output = []; error = message why }

pub record Says (a : Assembly) (r : Result ℕ AssembleError) (out : List ℕ) : Type 0 where
  pub streams : said r out ≡ answered a
  pub within : IfOk r (λ n. n ≤ length out)
