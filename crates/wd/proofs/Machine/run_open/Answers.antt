-- A run goes on after the stretch that it begins with, or is over with it.
use Rattle.std.proofs.Common.{sym, ap, ◌∙◌}
use Rattle.wd.specs.Rows.{Run}
use Rattle.wd.proofs.Runs.{starts}
use Rattle.wd.proofs.Stretches.{first_fits, first_along, first_run, first_whole}
use Rattle.wd.proofs.Machine.run_open.Goals as goal

pub run_on-requires : goal.run_on-requires
run_on-requires c =
    let a = c.args in
    let e = c.none-start in
    let v = starts a.lines a.self a.limit e.result a.row.now e.ensures c.requires c.ranges.limit.fits in
    record { passes = v.passes; room = v.room }

pub stretched-after-requires : goal.stretched-after-requires
stretched-after-requires c =
    let a = c.args in
    let s = c.first-stretch in
    let e = c.none-start in
    first_fits a.lines a.self a.limit a.row.now c.requires c.ranges.limit.fits e.result e.ensures s.result s.ensures.value s.ensures.upper_bound

pub returns-then-stretch-limit : goal.returns-then-stretch-limit
returns-then-stretch-limit c =
    let a = c.args in
    let s = c.first-stretch in
    let e = c.none-start in
    let b = c.stretched-after in
    let v = first_whole a.lines a.self a.limit a.row.now c.requires c.ranges.limit.fits e.result e.ensures s.result s.ensures.value s.ensures.upper_bound b.result b.ensures c.if-stretch-limit.true in
    (sym (ap (λ (r : Run). r.ran) v), sym (ap (λ (r : Run). r.row) v))

pub run_on-requires-2 : goal.run_on-requires-2
run_on-requires-2 c =
    let a = c.args in
    let s = c.first-stretch in
    let e = c.none-start in
    let b = c.stretched-after in
    let v = first_along a.lines a.self a.limit a.row.now c.requires c.ranges.limit.fits e.result e.ensures s.result s.ensures.value s.ensures.upper_bound b.result b.ensures in
    record { passes = v.passes; room = v.room }

pub returns : goal.returns
returns c =
    let a = c.args in
    let s = c.first-stretch in
    let e = c.none-start in
    let b = c.stretched-after in
    let o = c.run_on-2 in
    let v = first_run a.lines a.self a.limit a.row.now c.requires c.ranges.limit.fits e.result e.ensures s.result s.ensures.value s.ensures.upper_bound b.result b.ensures in
    (o.ensures.0 ∙ sym (ap (λ (r : Run). r.ran) v), o.ensures.1 ∙ sym (ap (λ (r : Run). r.row) v))
