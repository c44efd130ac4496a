-- The short table holds, by computation.
use mathlib.Core.Path.{refl}
use lib.Ieee.{of_bits, to_bits, lt, is_nan, add}
use Rattle.array.specs.Index.{how_many, all_below, all_in, fill, joined}
use Rattle.array.specs.Word.{be, bytes}
use Rattle.pattern.specs.Pattern.{sum_of, limit_of}
use Rattle.numeral.specs.Numeral.{decimal, is_numeral, numeral_of}
use Rattle.column.specs.Column.{drop_blanks, number_shown, mark, front, column}
use Rattle.column.specs.Row.{row, numbers_from, numbers_shown}
use Rattle.plan.specs.Known.{reads, reads_known, know_task, know_tasks, know_voted, know_frame, known, all_known, period_to, period}
use Rattle.plan.specs.Tables.{voted_in}
use Rattle.plan.specs.Accepted.{header_ok, constants_ok, op_ok, task_ok}
use Rattle.plan_grammar.specs.Line.{numbers_at, line_at, is_task}
use Rattle.plan_grammar.specs.Written.{written}
use Rattle.plan_grammar.specs.Meant.{op_of, task_of, header_with, initial_with, count_with, tasks_with, voted_with, actuators_with, with_line, plan_to, plan_of}
use Rattle.plan_grammar.specs.Refused.{length_ok, is_header, after_cells, task_in_order, vote_in_order, actuator_in_order, in_order, task_zeros, in_range, rules_of, form_or_rules, line_refusal, first_refusal, is_last, end_refusal, period_refusal, lines_refusal, text_refusal}
use Rattle.answer.specs.Tests.{unless}
use Rattle.plan_text.specs.Answers.{read_answer}
use Rattle.task.specs.Task.{op_value, run_task, run_tasks}
use Rattle.ballot.specs.Majority.{holds, holders, backing, shared, first_shared, majority, or_own}
use Rattle.ballot.specs.Plane.{most_held, none_more, plane}
use Rattle.memory.specs.Node.{computed, before, sent_cell, message_of, bin_of, counter_from, cell_from, counter_in, cell_in, voted_counter, voted_cell, voted}
use Rattle.short_table.specs.ShortTable.{lines_k, lines_take, plan_k, plan_take, mailbox, counters_voted, cells_voted, plane_of, late, ShortTable}

pub short-table : ShortTable
unfolding lines_k lines_take plan_k plan_take mailbox counters_voted cells_voted plane_of late
    how_many all_below all_in fill joined be bytes of_bits to_bits lt is_nan add sum_of limit_of
    drop_blanks decimal is_numeral numeral_of number_shown mark front column row numbers_from numbers_shown
    voted_in reads reads_known know_task know_tasks know_voted know_frame known all_known period_to period header_ok constants_ok op_ok task_ok
    numbers_at line_at is_task written op_of task_of header_with initial_with count_with tasks_with voted_with actuators_with with_line plan_to plan_of
    length_ok is_header after_cells task_in_order vote_in_order actuator_in_order in_order task_zeros in_range rules_of form_or_rules line_refusal first_refusal
    is_last end_refusal period_refusal lines_refusal text_refusal unless read_answer
    op_value run_task run_tasks holds holders shared first_shared majority computed before sent_cell message_of bin_of counter_from cell_from counter_in cell_in or_own
    voted_counter voted_cell voted backing most_held none_more plane
short-table =
    record {
      row-1 = (refl, refl);
      row-2 = (refl, refl);
      row-3 = (refl, refl);
      row-4 = (refl, refl);
      row-5 = (refl, refl);
      row-6 = λ own. refl;
      row-7 = refl;
      row-8 = refl;
      row-9 = λ own. refl;
      row-10 = refl;
      row-11 = refl;
      row-12 = refl;
      row-13 = (refl, refl);
      row-2026-06-remembered = refl;
      row-2026-06-old-rule = refl;
    }
