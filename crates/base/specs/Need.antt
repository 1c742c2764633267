-- A test that must hold before anything else is looked at.
use Rattle.std.specs.Prelude.{Bool, true, false}

-- the refusal, unless the test holds
abbrev pub need : {A : Type 0} → Bool → A → A → A
need true refusal rest = rest
need false refusal rest = refusal
