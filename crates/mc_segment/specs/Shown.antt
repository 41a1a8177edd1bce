-- Which event a class shows to a history that doesn't keep it.
use Rattle.mc_item.specs.declared.class_event.ClassEvent.{ClassEvent}
use Rattle.mc_item.specs.declared.class_event.ClassEvent.TheVariants as events
use Rattle.mc_segment.specs.declared.shown.ShownClass.{ShownClass}
use Rattle.mc_segment.specs.declared.shown.ShownClass.TheVariants as forms

-- the event that is shown in this form
abbrev pub shown_event : ShownClass → ClassEvent
shown_event (forms.Whole event) = event.value
shown_event (forms.Linked who number key cost seg moment) =
    events.Linked (record { who = who; number = number; key = key.value; cost = cost; seg = seg; moment = moment })
