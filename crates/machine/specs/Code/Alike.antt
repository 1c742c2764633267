-- Progress of two runs, alike but for the storage. The contracts of helpers use it, and no entry's.
use Rattle.std.specs.Prelude.{◌≡◌, ℕ, List}
use Rattle.machine.specs.Machine.{Frame, Progress, next, done, stop}

-- the frame with another storage
abbrev pub holding : List ℕ → Frame → Frame
holding m fr = record { pos = fr.pos; stack = fr.stack; storage = m; ops = fr.ops }

-- the same but for the storages, which are related by R
abbrev pub AlikeBut : (List ℕ → List ℕ → Type 0) → Progress → Progress → Type 0
AlikeBut R (next g fr) o = (m : List ℕ) × (o ≡ next g (holding m fr)) × R fr.storage m
AlikeBut R (done g fr) o = (m : List ℕ) × (o ≡ done g (holding m fr)) × R fr.storage m
AlikeBut R (stop f) o = o ≡ stop f
