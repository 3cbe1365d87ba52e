use Rattle.std.proofs.Common.{sym, ap, ◌∙◌}
use Rattle.atspi_world_links.specs.Named.{app_named}
use Rattle.atspi_world_parties.proofs.ToldAll.{deed_sent, line_of, line_of_none, end_of, end_of_none}
use Rattle.atspi_world_parties.proofs.telling.tell_deed.Goals as goal

pub returns-in-Send : goal.returns-in-Send
returns-in-Send c = record {
  told = deed_sent c.send_at.result c.args.event c.in-Send.message c.args.reader c.args.conn c.args.posts.now c.send_at.new.posts c.args.trace.now.items c.send_at.new.trace.items c.in-Send.is c.send_at.ensures.sent;
}

pub returns-in-Some : goal.returns-in-Some
returns-in-Some c = record {
  told = line_of c.args.reader c.args.conn c.args.posts.now c.args.trace.now.items c.tell_alone.result c.args.event _ _ c.in-Some.app c.tell_alone.new.trace.items c.in-Say.is
      (sym c.in-Some.is ∙ c.named_app.ensures ∙ ap (λ n. app_named n c.args.posts.now) c.as_str.ensures.bytes) c.tell_alone.ensures.told;
}

pub returns-in-Say : goal.returns-in-Say
returns-in-Say c = record {
  told = line_of_none c.args.reader c.args.conn c.args.posts.now c.args.trace.now.items c.args.event _ _ c.in-Say.is
      (sym c.in-None.is ∙ c.named_app.ensures ∙ ap (λ n. app_named n c.args.posts.now) c.as_str.ensures.bytes);
}

pub returns-in-Some-named_app : goal.returns-in-Some-named_app
returns-in-Some-named_app c = record {
  told = end_of c.args.reader c.args.conn c.args.posts.now c.args.trace.now.items c.tell_alone-in-Some-named_app.result c.args.event _ c.in-Some-named_app.app c.tell_alone-in-Some-named_app.new.trace.items c.in-Gone.is
      (sym c.in-Some-named_app.is ∙ c.named_app-in-Gone.ensures ∙ ap (λ n. app_named n c.args.posts.now) c.as_str-in-Gone.ensures.bytes) c.tell_alone-in-Some-named_app.ensures.told;
}

pub returns : goal.returns
returns c = record {
  told = end_of_none c.args.reader c.args.conn c.args.posts.now c.args.trace.now.items c.args.event _ c.in-Gone.is
      (sym c.in-None-named_app.is ∙ c.named_app-in-Gone.ensures ∙ ap (λ n. app_named n c.args.posts.now) c.as_str-in-Gone.ensures.bytes);
}
