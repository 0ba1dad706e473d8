use Rattle.seat_facts.proofs.Seated.{seats_answered, seats_told}
use Rattle.seat_facts.proofs.laws.seats_are_told_what_the_trace_says.Goals as goal

pub returns-clause-told : goal.returns-clause-told
returns-clause-told c = λ s k file logs made events replies first ready all gathered guarded stands. seats_told (record {
  split = c.parts_follow_a_trace.ensures.split;
  by_itself = c.a_device_is_by_itself.ensures.calls;
  stands = c.a_thread_stands_as_it_was_made.ensures;
  along = c.logs_say_a_merge.ensures.along;
  events_are = c.each_log_is_its_device_of_the_merge.ensures.events;
  next_is = c.each_log_is_its_device_of_the_merge.ensures.next;
  plans = c.each_call_has_its_plan.ensures;
  follow = c.a_device_follows_the_setup.ensures;
  on = c.each_call_is_on_a_planned_device.ensures.on;
  apart = c.each_call_is_on_a_planned_device.ensures.distinct;
}) s k file logs made events replies first ready all gathered guarded stands

pub returns-clause-answered : goal.returns-clause-answered
returns-clause-answered c = λ s k file logs made events replies first ready all gathered guarded stands. seats_answered (record {
  split = c.parts_follow_a_trace.ensures.split;
  by_itself = c.a_device_is_by_itself.ensures.calls;
  stands = c.a_thread_stands_as_it_was_made.ensures;
  along = c.logs_say_a_merge.ensures.along;
  events_are = c.each_log_is_its_device_of_the_merge.ensures.events;
  next_is = c.each_log_is_its_device_of_the_merge.ensures.next;
  plans = c.each_call_has_its_plan.ensures;
  follow = c.a_device_follows_the_setup.ensures;
  on = c.each_call_is_on_a_planned_device.ensures.on;
  apart = c.each_call_is_on_a_planned_device.ensures.distinct;
}) s k file logs made events replies first ready all gathered guarded stands
