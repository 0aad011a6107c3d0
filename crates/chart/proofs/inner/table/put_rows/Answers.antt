-- `chart::table::put_rows` meets its contract: each chunk is the row of its number.
-- Assumes nothing.
use Rattle.std.proofs.Common.{◌≡◌, sym, ap, ◌∙◌, ℕ, ◌+◌, ◌*◌, [], ◌∷◌, ◌++◌, length, drop, arith, length-append}
use Rattle.text.proofs.PageLaws.{one_more}
use Rattle.chart.proofs.ChartLaws.{chunk_row, chunk_rest}
use Rattle.chart.proofs.inner.table.put_rows.Goals as goal

pub loop-y-preserved : goal.loop-y-preserved
loop-y-preserved c =
    let i = c.loop-y.invariant in
    let h = c.in-Some.ensures.steps in
    let l = c.args.domains.now in
    let width = c.args.width in
    let done = length c.loop-y.yielded in
    let next : length (c.loop-y.yielded ++ (c.in-Some.y, c.in-Some.row) ∷ []) ≡ done + 1 = length-append c.loop-y.yielded _ in
    let left = sym i.rest ∙ ((h.0).1).0 in
    let wide = ((h.0).1).1 ∙ i.size in
    let number = h.1 ∙ i.number in
    record {
      number = omega (arith, h.2, i.number, next);
      size = (h.0).0 ∙ i.size;
      rest = chunk_rest width done l _ _ left wide ∙ ap (λ (k : ℕ). drop (k * width) l) (sym next);
      rows = one_more _ done _ next (cc (number, chunk_row width done l _ _ left wide)) i.rows c.put_row.ensures;
    }
