-- What is left to run from here is what was left at the start, and what may pass once may pass again.
use Rattle.std.proofs.Common.{sym, ap, ◌∙◌}
use Rattle.wd.specs.Rows.{Run}
use Rattle.wd.proofs.Runs.{at, no_more, ends}
use Rattle.wd.proofs.Stretches.{turn_fits, turn_along}
use Rattle.wd.proofs.run.run_on.Goals as goal

pub returns-then-stops : goal.returns-then-stops
returns-then-stops c =
    let a = c.args in
    let k = c.loop-left in
    let p = c.pass-passed in
    let v = ends a.lines k.ran k.row p.result p.new.row c.with-next.result p.ensures.0 p.ensures.1 c.with-next.ensures.value a.limit (at a.start a.row.now) k.left k.invariant c.loop-left-test.true (sym c.stops.ensures ∙ c.if-stops.true) in
    (sym (ap (λ (r : Run). r.ran) v), sym (ap (λ (r : Run). r.row) v))

pub stretched-ran-requires : goal.stretched-ran-requires
stretched-ran-requires c =
    let a = c.args in
    let k = c.loop-left in
    let p = c.pass-passed in
    let r = c.with-next in
    let s = c.ahead-stretch in
    turn_fits a.lines k.ran k.row p.result p.new.row r.result p.ensures.0 p.ensures.1 r.ensures.value a.limit (at a.start a.row.now) k.left k.invariant c.loop-left-test.true (sym c.stops.ensures ∙ c.if-stops.false) r.ensures.room s.result s.ensures.value s.ensures.upper_bound

pub loop-left-preserved : goal.loop-left-preserved
loop-left-preserved c =
    let a = c.args in
    let k = c.loop-left in
    let p = c.pass-passed in
    let r = c.with-next in
    let s = c.ahead-stretch in
    turn_along a.lines k.ran k.row p.result p.new.row r.result p.ensures.0 p.ensures.1 r.ensures.value a.limit (at a.start a.row.now) k.left k.invariant c.loop-left-test.true (sym c.stops.ensures ∙ c.if-stops.false) r.ensures.room s.result s.ensures.value s.ensures.upper_bound c.stretched-ran.result c.stretched-ran.ensures

pub returns : goal.returns
returns c =
    let a = c.args in
    let k = c.loop-left in
    let v = k.invariant.rest ∙ no_more k.left a.lines (at k.ran k.row) c.loop-left-test.false in
    (sym (ap (λ (r : Run). r.ran) v), sym (ap (λ (r : Run). r.row) v))
