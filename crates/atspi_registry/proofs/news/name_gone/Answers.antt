use Rattle.std.proofs.Common.{sym, ◌∙◌, chars, false, true}
use Rattle.atspi_marshal_in_place.specs.Items.{fields_data}
use Rattle.atspi_message_in_place.specs.View.{envelope_at}
use Rattle.atspi_registry.proofs.Heard.{owned, gone}
use Rattle.atspi_registry.proofs.news.name_gone.Goals as goal

pub returns-then-not-is_nobody : goal.returns-then-not-is_nobody
returns-then-not-is_nobody c =
    owned (envelope_at c.args.m.now) (sym c.is_owner_news.ensures ∙ c.if-not-is_owner_news.false)
    (chars c.in_ok-name.name.now) (fields_data c.next_text.new.values) c.in_ok-name.ensures.comes
    (chars c.in_ok-_before._before.now) (fields_data c.next_text-2.new.values) c.in_ok-_before.ensures.comes
    (chars c.in_ok-after.after.now) (fields_data c.next_text-3.new.values) c.in_ok-after.ensures.comes
    (λ h. (let clash = c.is_nobody.ensures.1 h in absurd cc))

pub returns-in-None : goal.returns-in-None
returns-in-None c =
    gone (envelope_at c.args.m.now) (sym c.is_owner_news.ensures ∙ c.if-not-is_owner_news.false)
    (chars c.in_ok-name.name.now) (fields_data c.next_text.new.values) c.in_ok-name.ensures.comes
    (chars c.in_ok-_before._before.now) (fields_data c.next_text-2.new.values) c.in_ok-_before.ensures.comes
    (chars c.in_ok-after.after.now) (fields_data c.next_text-3.new.values) c.in_ok-after.ensures.comes
    (c.is_nobody.ensures.0 c.if-not-is_nobody.false) c.in-None.ensures.comes.0
