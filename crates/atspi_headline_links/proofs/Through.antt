-- BEHIND ALL THAT THE BUS DOES with a message or an end, what was delivered to each end that is here is what it took and what lies on its link.
use Rattle.std.proofs.Common.{◌≡◌, ℕ, zero, suc, List, [], ◌∷◌, ◌++◌, map, Option, Some, refl, sym, ap, ap₂, ◌∙◌, subst, false}
use Rattle.std.specs.Prelude.{slice_get}
use Rattle.std.proofs.lemmas.List.{append_assoc}
use Rattle.atspi_script_lines.specs.declared.line.Party.{Party}
use Rattle.atspi_script_lines.specs.declared.line.Party.TheVariants.{Bus as The_bus}
use Rattle.atspi_match.specs.routing.Steps.{BusStep}
use Rattle.atspi_match.specs.routing.Queues.{Bus, own_of}
use Rattle.atspi_trace.specs.Entry.{Entry, got}
use Rattle.atspi_trace.specs.World.{End, World}
use Rattle.atspi_trace.specs.Ends.{party_at, end_at, with_end, taken_up}
use Rattle.atspi_trace.specs.Carrying.{Carried, letter_of, stepped, named, sent_by_bus}
use Rattle.atspi_trace.specs.Causes.{Done}
use Rattle.atspi_headline.specs.Words.{Act, takes_end, writes, ends}
use Rattle.atspi_headline.specs.Links.{bus_took as bus_did_take, bus_left}
use Rattle.atspi_trace_laws.proofs.OfOrder.Parties.{no_none, same_some}
use Rattle.atspi_trace_laws.proofs.OfOrder.Frame.{over_with}
use Rattle.atspi_trace_laws.proofs.OfOrder.Shape.{Shape}
use Rattle.atspi_trace_laws.proofs.OfOrder.Effects.{BusTakes, BusEnds}
use Rattle.atspi_headline_laws.proofs.Joining.{parties}
use Rattle.atspi_headline_laws.proofs.Growing.{Front}
use Rattle.atspi_headline_laws.proofs.Handing.{shape}
use Rattle.atspi_headline_links.proofs.Moved.{moved_written}
use Rattle.atspi_headline_links.proofs.Courses.{course}
use Rattle.atspi_headline_links.proofs.Gots.{SameDown, same_down}
use Rattle.atspi_headline_links.proofs.Speaking.{BusSo, spoken_step, no_starts, same_ends, step, c1, times, taken_all, good, all_entries, its_place, its_message, leaving, e1, rounds, ended_all, good_ends, end_entries, end_place}
use Rattle.atspi_headline_links.proofs.Delivering.{FullTied, Distinct, spoken_full, fold_all, full_over, left_full, left_parties, course_full, letter_from, letter_message}

map_both : (xs ys : List Entry) → map writes (xs ++ ys) ≡ map writes xs ++ map writes ys
map_both [] ys = refl
map_both (x ∷ xs) ys = ap (λ l. writes x ∷ l) (map_both xs ys)

end_behind : (es : List End) (k : ℕ) (p : Party) → slice_get (parties es) k ≡ Some p → (e : End) × (end_at es k ≡ Some e) × (e.who ≡ p)
end_behind [] k p h = absurd (no_none p h)
end_behind (x ∷ xs) zero p h = (x, refl, same_some x.who p h)
end_behind (x ∷ xs) (suc k) p h = end_behind xs k p h

-- no party has two ends
pub distinct : (w : World) → Shape w → Distinct (parties w.ends)
distinct w s j k p h g =
    let x = end_behind w.ends j p h in
    let y = end_behind w.ends k p g in
    s.one j k x.0 y.0 x.1 y.1 (x.2 ∙ sym y.2)

with_parties : (f : End → End) → ((e : End) → (f e).who ≡ e.who) → (conn : ℕ) (es : List End) → parties (with_end conn f es) ≡ parties es
with_parties f same conn [] = refl
with_parties f same zero (e ∷ es) = ap (λ p. p ∷ parties es) (same e)
with_parties f same (suc conn) (e ∷ es) = ap (λ l. e.who ∷ l) (with_parties f same conn es)

up_same : (e : End) → SameDown e (taken_up e)
up_same e = record { whose = refl; standing = refl; down = refl; mark = refl }

name_same : (b : Bus) (conn : ℕ) (e : End) → SameDown e (named b conn e)
name_same b conn e = record { whose = refl; standing = refl; down = refl; mark = refl }

module _ (front : List Act) (w : World) (free next : Option ℕ) (d : Done) (f : Front front w free) (after : Front (front ++ map writes d.entries) d.world next) (same : parties d.world.ends ≡ parties w.ends) (so : BusSo front w.bus.state) (b : BusTakes w d) where
  abbrev its_step : BusStep
  its_step = step front w free next d f after same so b

  abbrev pub c_one : Carried
  c_one = c1 front w free next d f after same so b

  abbrev pub c_all : Carried
  c_all = taken_all front w free next d f after same so b

  pub took_full : FullTied front (record { bus = w.bus; ends = w.ends }) → FullTied (front ++ map writes d.entries) c_all
  took_full t =
      let act : Act = writes (got The_bus b.e.who b.said.message.serial) in
      let own : List Entry = sent_by_bus (own_of its_step.moves) in
      let n : ℕ = times front w free next d f after same so b in
      let start : Carried = record { bus = w.bus; ends = w.ends } in
      let off : Carried = record { bus = w.bus; ends = with_end b.conn taken_up w.ends } in
      let one : Distinct (ends front) = subst Distinct f.ends (distinct w (shape front w free f)) in
      let does_so = ap₂ (bus_did_take w.bus.state) (its_place front w free next d f after same so b) (its_message front w free next d f after same so b) in
      let first : BusSo (front ++ act ∷ map writes own) its_step.state = spoken_step front act w.bus.state its_step refl does_so so in
      let ends_are : d.world.ends ≡ c_all.ends = ap (λ (x : Done). x.world.ends) b.is in
      let known : ends (front ++ act ∷ map writes own) ≡ parties c_all.ends = same_ends front (act ∷ map writes own) (no_starts (own_of its_step.moves)) ∙ sym f.ends ∙ sym same ∙ ap parties ends_are in
      let t0 : FullTied front off = full_over front start (with_end b.conn taken_up w.ends) (over_with SameDown same_down taken_up up_same b.conn w.ends) t in
      let off_parties : parties off.ends ≡ ends front = with_parties taken_up (λ e. refl) b.conn w.ends ∙ f.ends in
      let handed : Carried = stepped (letter_of b.e.who b.said) off its_step in
      let t1 : FullTied (front ++ act ∷ map writes own) handed =
      spoken_full front act w.bus.state its_step (letter_of b.e.who b.said) off does_so so (λ p es. moved_written p false es) (letter_from b.e.who b.said) (letter_message b.e.who b.said) one off_parties t0 in
      let t2 : FullTied (front ++ act ∷ map writes own) c_one =
      full_over (front ++ act ∷ map writes own) handed (with_end b.conn (named handed.bus b.conn) handed.ends) (over_with SameDown same_down (named handed.bus b.conn) (name_same handed.bus b.conn) b.conn handed.ends) t1 in
      let one_parties : parties c_one.ends ≡ parties c_all.ends =
      with_parties (named handed.bus b.conn) (λ e. refl) b.conn handed.ends ∙ fold_all (letter_of b.e.who b.said) off its_step ∙ with_parties taken_up (λ e. refl) b.conn w.ends ∙ sym same ∙ ap parties ends_are in
      let t3 : FullTied ((front ++ act ∷ map writes own) ++ map writes (course c_all.ends n c_one)) c_all =
      course_full c_all.ends n c_one (front ++ act ∷ map writes own) (good front w free next d f after same so b) first known (subst Distinct (sym f.ends ∙ sym same ∙ ap parties ends_are) one) one_parties t2 in
      subst (λ l. FullTied l c_all)
      (append_assoc front (act ∷ map writes own) (map writes (course c_all.ends n c_one))
      ∙ ap (λ l. front ++ l) (sym (map_both (got The_bus b.e.who b.said.message.serial ∷ own) (course c_all.ends n c_one)) ∙ ap (map writes) (sym (all_entries front w free next d f after same so b))))
      t3

module _ (front : List Act) (w : World) (free next : Option ℕ) (d : Done) (f : Front front w free) (b : BusEnds w d) (after : Front (front ++ takes_end (party_at w.ends b.conn) ∷ map writes d.entries) d.world next)
    (same : parties d.world.ends ≡ parties w.ends) (so : BusSo front w.bus.state) where
  abbrev its_leave : BusStep
  its_leave = leaving front w free next d f b after same so

  abbrev pub e_one : Carried
  e_one = e1 front w free next d f b after same so

  abbrev pub e_all : Carried
  e_all = ended_all front w free next d f b after same so

  pub ended_full : FullTied front (record { bus = w.bus; ends = w.ends }) → FullTied (front ++ takes_end (party_at w.ends b.conn) ∷ map writes d.entries) e_all
  ended_full t =
      let act : Act = takes_end (party_at w.ends b.conn) in
      let own : List Entry = sent_by_bus (own_of its_leave.moves) in
      let n : ℕ = rounds front w free next d f b after same so in
      let start : Carried = record { bus = w.bus; ends = w.ends } in
      let one : Distinct (ends front) = subst Distinct f.ends (distinct w (shape front w free f)) in
      let does_so = ap (bus_left w.bus.state) (end_place front w free next d f b after same so) in
      let first : BusSo (front ++ act ∷ map writes own) its_leave.state = spoken_step front act w.bus.state its_leave refl does_so so in
      let ends_are : d.world.ends ≡ e_all.ends = ap (λ (x : Done). x.world.ends) b.is in
      let known : ends (front ++ act ∷ map writes own) ≡ parties e_all.ends = same_ends front (act ∷ map writes own) (no_starts (own_of its_leave.moves)) ∙ sym f.ends ∙ sym same ∙ ap parties ends_are in
      let t1 : FullTied (front ++ act ∷ map writes own) e_one = left_full front act start b.conn does_so so (λ p es. moved_written p false es) refl one f.ends t in
      let one_parties : parties e_one.ends ≡ parties e_all.ends = left_parties start b.conn ∙ sym same ∙ ap parties ends_are in
      let t3 : FullTied ((front ++ act ∷ map writes own) ++ map writes (course e_all.ends n e_one)) e_all =
      course_full e_all.ends n e_one (front ++ act ∷ map writes own) (good_ends front w free next d f b after same so) first known (subst Distinct (sym f.ends ∙ sym same ∙ ap parties ends_are) one) one_parties t1 in
      subst (λ l. FullTied l e_all)
      (append_assoc front (act ∷ map writes own) (map writes (course e_all.ends n e_one))
      ∙ ap (λ l. front ++ act ∷ l) (sym (map_both own (course e_all.ends n e_one)) ∙ ap (map writes) (sym (end_entries front w free next d f b after same so))))
      t3
