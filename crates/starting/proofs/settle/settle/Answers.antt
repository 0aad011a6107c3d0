-- `starting::settle::settle` meets its contract: what the work list left is written, or zero where a cell was emptied, and work memory is zero.
-- Assumes nothing.
use mathlib.Core.Path.{ap, ◌∙◌}
use Prim.Native.Nat.{ℕ}
use lib.ListN.{replicate}
use Rattle.starting.proofs.SettleLaws.{settle-empty, settle-whole}
use Rattle.starting.proofs.settle.settle.Goals as goal

pub returns-then-empty : goal.returns-then-empty
returns-then-empty c =
    settle-empty _ _ _ _ _ c.requires.ground c.requires.starting.fit c.reduce-empty.ensures.value c.reduce-empty.ensures.domains_after
    (c.zero_bytes.ensures ∙ ap (λ (k : ℕ). replicate k 0) c.reduce-empty.auto.counts)
    (c.zero_pending.ensures ∙ ap (λ (k : ℕ). replicate k 0) c.reduce-empty.auto.pending)
    c.if-empty.true c.zero_domains.ensures

pub returns : goal.returns
returns c =
    settle-whole _ _ _ _ _ c.requires.ground c.requires.starting.fit c.reduce-empty.ensures.value c.reduce-empty.ensures.domains_after
    (c.zero_bytes.ensures ∙ ap (λ (k : ℕ). replicate k 0) c.reduce-empty.auto.counts)
    (c.zero_pending.ensures ∙ ap (λ (k : ℕ). replicate k 0) c.reduce-empty.auto.pending) c.if-empty.false
