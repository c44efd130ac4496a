-- `plan_form::well_formed` meets its contract: what no call tests, `storable`, holds of every value of the Rattle type.
use mathlib.Core.Path.{ap}
use mathlib.Core.Bool.{not}
use Rattle.plan.proofs.EntryLaws.{no_header, no-tasks, no-initial, no-votes, all-but-actuators, plan-storable}
use Rattle.plan_form.proofs.well_formed.Goals as goal

pub returns-then-not-header_ok : goal.returns-then-not-header_ok
returns-then-not-header_ok c = no_header c.args.p c.header_ok.ensures (ap not c.if-not-header_ok.true)

pub returns-then-not-tasks_ok : goal.returns-then-not-tasks_ok
returns-then-not-tasks_ok c =
    no-tasks c.args.p c.tasks_ok.ensures (ap not c.if-not-tasks_ok.true)

pub returns-then-not-initial_ok : goal.returns-then-not-initial_ok
returns-then-not-initial_ok c =
    no-initial c.args.p
    c.initial_ok.ensures (ap not c.if-not-initial_ok.true)

pub returns-then-not-votes_ok : goal.returns-then-not-votes_ok
returns-then-not-votes_ok c =
    no-votes c.args.p
    c.votes_ok.ensures (ap not c.if-not-votes_ok.true)

pub returns : goal.returns
returns c =
    all-but-actuators c.args.p (plan-storable c.args.p _ c.well_formed.0)
    c.header_ok.ensures (ap not c.if-not-header_ok.false)
    c.tasks_ok.ensures (ap not c.if-not-tasks_ok.false)
    c.initial_ok.ensures (ap not c.if-not-initial_ok.false)
    c.votes_ok.ensures (ap not c.if-not-votes_ok.false)
    c.actuators_ok.ensures
