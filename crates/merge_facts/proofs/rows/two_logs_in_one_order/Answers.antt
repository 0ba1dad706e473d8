-- By computation, but for logs that are not there.
use Rattle.std.proofs.Common.{◌≡◌, ◌==◌, ◌+◌, ℕ, zero, suc, false, None, [], length, refl, sym, ap, arith}
use Rattle.std.specs.Prelude.{Ok}
use Rattle.std.specs.List.{IsDistinct, slice_index_or}
use Rattle.std.specs.Fmt.{digits}
use Rattle.std.proofs.lemmas.Bool.{ne_eqb}
use Rattle.command_tables.specs.Table.{row_of}
use Rattle.command_tables.specs.Tests.{same_type, same_command, same_code}
use Rattle.replay_base.specs.Lines.{lines_of}
use Rattle.trace_format.specs.Words.{number_up_to, name_of, one_of, list_of, arg_of, code_of, command_of}
use Rattle.trace_format.specs.Reading.{ending_at, tail_at, begin_at, return_at, read_line}
use Rattle.stream_model.specs.FileLines.{heading_of}
use Rattle.stream_model.specs.Order.{refusal_at_end}
use Rattle.stream_model.specs.Refusals.{lines_in}
use Rattle.stream_model.specs.Samples.{headed, two_by_two}
use Rattle.stream_model.proofs.Orders.{so_far_in_order, whole_file}
use Rattle.merge_model.proofs.Parting.{filter_no}
use Rattle.log_merge.specs.Merged.{IsLogMerge, lines_of_log}
use Rattle.merge_facts.specs.Logged.{AreLoggedBy, AreLogsOf, LoggedCall, entries_in, entries_of, lines_of_thread}
use Rattle.merge_facts.specs.Samples.{calls, devices, file, logs, all_entries}
use Rattle.merge_facts.proofs.rows.two_logs_in_one_order.Goals as goal

first_not : (k : ℕ) → (0 == suc (suc k)) ≡ false
first_not k = ne_eqb 0 (suc (suc k)) (λ e. omega (arith, e))

other_not : (k : ℕ) → (1 == suc (suc k)) ≡ false
other_not k = ne_eqb 1 (suc (suc k)) (λ e. omega (arith, e))

each_log : (k : ℕ) → lines_of_log k all_entries ≡ slice_index_or logs k []
each_log zero = refl
each_log (suc zero) = refl
each_log (suc (suc k)) = rw (first_not k, other_not k) refl

merge : IsLogMerge logs all_entries
merge = record { each = each_log; ordered = (refl, (refl, (refl, (refl, (refl, (refl, (refl, (refl, (refl, (tt, tt)))))))))) }

-- each log has of a thread the entries of its calls
each_first : (k : ℕ) → lines_of_thread 1 (slice_index_or logs k []) ≡ entries_in k (slice_index_or calls 0 [])
unfolding digits row_of same_type same_command same_code number_up_to name_of one_of list_of arg_of code_of command_of ending_at tail_at begin_at return_at read_line heading_of
each_first zero = refl
each_first (suc zero) = refl
each_first (suc (suc k)) = sym (ap entries_of (filter_no (λ (c : LoggedCall). c.planned.place == suc (suc k)) (slice_index_or calls 0 []) (first_not k, (other_not k, (first_not k, tt)))))

each_other : (k : ℕ) → lines_of_thread 2 (slice_index_or logs k []) ≡ entries_in k (slice_index_or calls 1 [])
unfolding digits row_of same_type same_command same_code number_up_to name_of one_of list_of arg_of code_of command_of ending_at tail_at begin_at return_at read_line heading_of
each_other zero = refl
each_other (suc zero) = refl
each_other (suc (suc k)) = sym (ap entries_of (filter_no (λ (c : LoggedCall). c.planned.place == suc (suc k)) (slice_index_or calls 1 []) (first_not k, (other_not k, tt))))

first : AreLoggedBy logs 1 (slice_index_or calls 0 [])
unfolding digits row_of same_type same_command same_code number_up_to name_of one_of list_of arg_of code_of command_of ending_at tail_at begin_at return_at read_line heading_of
first = record { own = (record { begins = refl; returns = refl; first_own = refl; last_own = refl }, (record { begins = refl; returns = refl; first_own = refl; last_own = refl }, (record { begins = refl; returns = refl; first_own = refl; last_own = refl }, tt))); rise = (omega arith, omega arith, (omega arith, omega arith, (omega arith, omega arith, tt))); each = each_first }

other : AreLoggedBy logs 2 (slice_index_or calls 1 [])
unfolding digits row_of same_type same_command same_code number_up_to name_of one_of list_of arg_of code_of command_of ending_at tail_at begin_at return_at read_line heading_of
other = record { own = (record { begins = refl; returns = refl; first_own = refl; last_own = refl }, (record { begins = refl; returns = refl; first_own = refl; last_own = refl }, tt)); rise = (omega arith, omega arith, (omega arith, omega arith, tt)); each = each_other }

-- the file was read
is_whole : (lines_in (lines_of (headed two_by_two)) ≡ Ok file) × (refusal_at_end file ≡ None)
unfolding digits row_of same_type same_command same_code number_up_to name_of one_of list_of arg_of code_of command_of ending_at tail_at begin_at return_at read_line heading_of
is_whole = whole_file (length (lines_of (headed two_by_two)) + 1) (lines_in (lines_of (headed two_by_two))) file refl

are_logs : AreLogsOf file devices logs calls
unfolding digits row_of same_type same_command same_code number_up_to name_of one_of list_of arg_of code_of command_of ending_at tail_at begin_at return_at read_line heading_of IsDistinct
are_logs = record {
  order = so_far_in_order (lines_of (headed two_by_two)) file is_whole.0;
  whole = is_whole.1;
  distinct = ((refl, tt), (tt, tt));
  on = ((refl, (tt, (refl, (tt, (refl, (tt, tt)))))), ((refl, (tt, (refl, (tt, tt)))), tt));
  streams = ((first, refl), ((other, refl), tt));
  owned = ((refl, (refl, (refl, (refl, (refl, (refl, tt)))))), ((refl, (refl, (refl, (refl, tt)))), tt));
}

pub returns : goal.returns
unfolding digits row_of same_type same_command same_code number_up_to name_of one_of list_of arg_of code_of command_of ending_at tail_at begin_at return_at read_line heading_of
returns c = record { logs = are_logs; merge = merge; places = refl; thread = refl; said = refl; first_device = refl; other_device = refl }
