-- The events that a record of moments stands for.
use Rattle.std.specs.Prelude.{List, map, vec_items}
use Rattle.report.specs.Events.{Event, read, wrote, write_failed}
use Rattle.report_tests.specs.declared.recorder.Moment.{Moment}
use Rattle.report_tests.specs.declared.recorder.Moment.TheVariants.{Read, Wrote, Interrupted}

abbrev pub event_of : Moment → Event
event_of (Read bytes) = read (vec_items bytes)
event_of (Wrote bytes) = wrote (vec_items bytes)
event_of (Interrupted e) = write_failed e

abbrev pub events_of : List Moment → List Event
events_of moments = map event_of moments
