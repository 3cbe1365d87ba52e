use Rattle.std.proofs.Common.{refl, sym, inl, inr}
use Rattle.atspi_run.specs.Words.{help, version, replay_help, make_help, check_help, hit_help}
use Rattle.atspi_run.proofs.WordLemmas.{asks_check_help, asks_help, asks_hit_help, asks_make_help, asks_replay_help, asks_version, not_if, none_asked}
use Rattle.atspi_run.proofs.words.text_for.Goals as goal

pub returns-then-is_alone-clause-told : goal.returns-then-is_alone-clause-told
returns-then-is_alone-clause-told c text asks = (refl, sym (asks_help _ text (c.is_alone.ensures.0 c.if-is_alone.true) asks))

pub returns-then-is_alone-clause-usage : goal.returns-then-is_alone-clause-usage
returns-then-is_alone-clause-usage c none = absurd (none (help, inl (c.is_alone.ensures.0 c.if-is_alone.true, refl)))

pub returns-then-is_alone-2-clause-told : goal.returns-then-is_alone-2-clause-told
returns-then-is_alone-2-clause-told c text asks = (refl, sym (asks_version _ text (c.is_alone-2.ensures.0 c.if-is_alone-2.true) asks))

pub returns-then-is_alone-2-clause-usage : goal.returns-then-is_alone-2-clause-usage
returns-then-is_alone-2-clause-usage c none = absurd (none (version, inr (inl (c.is_alone-2.ensures.0 c.if-is_alone-2.true, refl))))

pub returns-then-are_two-clause-told : goal.returns-then-are_two-clause-told
returns-then-are_two-clause-told c text asks = (refl, sym (asks_replay_help _ text (c.are_two.ensures.0 c.if-are_two.true) asks))

pub returns-then-are_two-clause-usage : goal.returns-then-are_two-clause-usage
returns-then-are_two-clause-usage c none = absurd (none (replay_help, inr (inr (inl (c.are_two.ensures.0 c.if-are_two.true, refl)))))

pub returns-then-are_two-2-clause-told : goal.returns-then-are_two-2-clause-told
returns-then-are_two-2-clause-told c text asks = (refl, sym (asks_make_help _ text (c.are_two-2.ensures.0 c.if-are_two-2.true) asks))

pub returns-then-are_two-2-clause-usage : goal.returns-then-are_two-2-clause-usage
returns-then-are_two-2-clause-usage c none = absurd (none (make_help, inr (inr (inr (inl (c.are_two-2.ensures.0 c.if-are_two-2.true, refl))))))

pub returns-then-are_two-3-clause-told : goal.returns-then-are_two-3-clause-told
returns-then-are_two-3-clause-told c text asks = (refl, sym (asks_check_help _ text (c.are_two-3.ensures.0 c.if-are_two-3.true) asks))

pub returns-then-are_two-3-clause-usage : goal.returns-then-are_two-3-clause-usage
returns-then-are_two-3-clause-usage c none = absurd (none (check_help, inr (inr (inr (inr (inl (c.are_two-3.ensures.0 c.if-are_two-3.true, refl)))))))

pub returns-then-are_two-4-clause-told : goal.returns-then-are_two-4-clause-told
returns-then-are_two-4-clause-told c text asks = (refl, sym (asks_hit_help _ text (c.are_two-4.ensures.0 c.if-are_two-4.true) asks))

pub returns-then-are_two-4-clause-usage : goal.returns-then-are_two-4-clause-usage
returns-then-are_two-4-clause-usage c none = absurd (none (hit_help, inr (inr (inr (inr (inr (c.are_two-4.ensures.0 c.if-are_two-4.true, refl)))))))

pub returns-clause-told : goal.returns-clause-told
returns-clause-told c text asks =
    absurd
    (none_asked _ text (not_if c.is_alone.result c.if-is_alone.false c.is_alone.ensures.1) (not_if c.is_alone-2.result c.if-is_alone-2.false c.is_alone-2.ensures.1)
    (not_if c.are_two.result c.if-are_two.false c.are_two.ensures.1) (not_if c.are_two-2.result c.if-are_two-2.false c.are_two-2.ensures.1)
    (not_if c.are_two-3.result c.if-are_two-3.false c.are_two-3.ensures.1) (not_if c.are_two-4.result c.if-are_two-4.false c.are_two-4.ensures.1) asks)
