-- The work list without what is kept beside the domains. Follows docs/RULES.md, "Propagation".
-- Assumes nothing.
use Rattle.std.specs.Prelude.{List, ℕ}
use Rattle.consistency.specs.Worklist.{Removal, State, state}

-- nothing is kept beside the domains
abbrev pub nothing : Removal → List ℕ → Unit {0} → Unit {0}
nothing u D x = tt

-- a state without what is kept beside the domains
abbrev pub forget : {X : Type 0} → State X → State (Unit {0})
forget s = state s.counts s.domains s.pending s.empty tt
