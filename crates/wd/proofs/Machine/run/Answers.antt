-- A byte transferred is a run by itself.
use Rattle.std.proofs.Common.{length, sym, ap, ◌∙◌, arith}
use Rattle.wd.specs.Rows.{Run}
use Rattle.wd.specs.Transfers.{one_byte_time}
use Rattle.wd.proofs.Valid.{row_inside}
use Rattle.wd.proofs.Runs.{open_run, none_run, refused_run}
use Rattle.wd.proofs.Transferred.{over_run}
use Rattle.wd.proofs.Machine.run.Goals as goal

pub returns-in-Err : goal.returns-in-Err
returns-in-Err c =
    let a = c.args in
    let e = refused_run a.self a.lines a.limit a.row.now c.in-Err.refusal (sym c.row_refusal.ensures ∙ c.in-Err.is) in
    (c.none.ensures ∙ sym (ap (λ (r : Run). r.ran) e), sym (ap (λ (r : Run). r.row) e))

pub returns-then-limit-eq0 : goal.returns-then-limit-eq0
returns-then-limit-eq0 c =
    let a = c.args in
    let e = none_run a.self a.lines a.limit a.row.now (sym c.row_refusal.ensures ∙ c.in_default.is) c.if-limit-eq0.true in
    (c.none-then-limit-eq0.ensures ∙ sym (ap (λ (r : Run). r.ran) e), sym (ap (λ (r : Run). r.row) e))

pub bounds-row-position : goal.bounds-row-position
bounds-row-position c = row_inside c.args.self (length c.args.row.now) (sym c.row_refusal.ensures ∙ c.in_default.is)

pub bounds-row-position-in-Some : goal.bounds-row-position-in-Some
bounds-row-position-in-Some c = row_inside c.args.self (length c.args.row.now) (sym c.row_refusal.ensures ∙ c.in_default.is)

pub returns-in-Some : goal.returns-in-Some
returns-in-Some c =
    let a = c.args in
    let opens = sym c.row_refusal.ensures ∙ c.in_default.is in
    let v = over_run a.self a.lines a.row.now _ opens (sym c.transferred.ensures ∙ c.in-Some.is) a.limit (omega arith) in (
      c.one.ensures ∙ ap one_byte_time c.after_transfer.ensures ∙ sym (ap (λ (r : Run). r.ran) v),
      sym (ap (λ (r : Run). r.row) v),
    )

pub returns-in-None : goal.returns-in-None
returns-in-None c =
    let a = c.args in
    let o = c.run_open in
    let v = open_run a.self a.lines a.limit a.row.now (sym c.row_refusal.ensures ∙ c.in_default.is) in
    (o.ensures.0 ∙ sym (ap (λ (r : Run). r.ran) v), o.ensures.1 ∙ sym (ap (λ (r : Run). r.row) v))
