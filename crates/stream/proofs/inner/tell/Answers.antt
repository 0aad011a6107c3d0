-- `stream::inner::tell` meets its contract: by what `lay` tells.
-- Assumes nothing.
use mathlib.Core.List.{List}
use mathlib.Core.Path.{refl, sym, ap, ◌∙◌}
use Prim.Native.Nat.{ℕ}
use native.Mathlib.Omega.{arith}
use borrow.Author.Rules.{rules}
use Rattle.std.specs.Prelude.{Err}
use Rattle.records.specs.Laying.{pen, laid}
use Rattle.stream.proofs.CaseLaws.{room-ended, room-refused, answer-ended, answer-refused, answer-large, wrote-short, wrote-number}
use Rattle.stream.proofs.inner.tell.Goals as goal

pub tell_result-requires : goal.tell_result-requires
tell_result-requires c =
    let a = c.args in
    let (b, H) = c.requires.3 in
    let lay = c.lay in
    (room-ended b a.noise.now a.words.now lay.new.domains lay.new.out a.domains.now a.res.now lay.result (lay.ensures b H) c.in-Ok.laid c.in-Ok.is, search rules, search rules)

pub lay_u16-requires : goal.lay_u16-requires
lay_u16-requires c =
    let a = c.args in
    let (b, H) = c.requires.3 in
    let lay = c.lay in
    (omega (arith, c.from.ensures, room-refused b a.noise.now a.words.now lay.new.domains lay.new.out a.domains.now a.res.now lay.result (lay.ensures b H) c.in-Err-Refused.refusal (c.in-Err-Refused.is ∙ ap Err c.in-Err-Refused.field-0-is)), omega (arith, c.requires.2))

pub returns-in-Ok : goal.returns-in-Ok
returns-in-Ok c =
    let a = c.args in
    let lay = c.lay in
    record { by_index = λ b H. c.tell_result.ensures.result_after ∙ ap (λ (l : List ℕ). laid l (pen a.out.now 0)) (sym (answer-ended b a.noise.now a.words.now lay.new.domains lay.new.out a.domains.now a.res.now lay.result (lay.ensures b H) c.in-Ok.laid c.in-Ok.is)); upper_bound = c.tell_result.ensures.upper_bound }

pub returns-in-Err-Refused : goal.returns-in-Err-Refused
returns-in-Err-Refused c =
    let a = c.args in
    let lay = c.lay in
    let wrote = c.lay_u16 in record { by_index = λ b H. wrote-number wrote.new.out a.out.now wrote.result c.from.result wrote.ensures (answer-refused b a.noise.now a.words.now lay.new.domains lay.new.out a.domains.now a.res.now lay.result (lay.ensures b H) c.in-Err-Refused.refusal (c.in-Err-Refused.is ∙ ap Err c.in-Err-Refused.field-0-is)) c.from.ensures; upper_bound = wrote-short wrote.new.out a.out.now wrote.result c.from.result wrote.ensures }

pub returns-in-Err-TooLarge : goal.returns-in-Err-TooLarge
returns-in-Err-TooLarge c =
    let a = c.args in
    let lay = c.lay in
    let wrote = c.lay_u16-in-Err-TooLarge in record { by_index = λ b H. wrote-number wrote.new.out a.out.now wrote.result 65535 wrote.ensures (answer-large b a.noise.now a.words.now lay.new.domains lay.new.out a.domains.now a.res.now lay.result (lay.ensures b H) (c.in-Err-TooLarge.is ∙ ap Err c.in-Err-TooLarge.field-0-is)) refl; upper_bound = wrote-short wrote.new.out a.out.now wrote.result 65535 wrote.ensures }
