-- What a cause that is allowed does, in the few forms that there are.
use Rattle.std.proofs.Common.{◌≡◌, ℕ, suc, false, List, [], ◌∷◌, length, None, Some, refl, sym, ap, ◌∙◌, subst}
use Rattle.std.specs.Prelude.{nat_lt, nat_le, Result, Ok, Err}
use Rattle.atspi_tree_model.specs.declared.edit.Edit.{Edit}
use Rattle.atspi_tree_model.specs.declared.edit.EditFault.{EditFault}
use Rattle.atspi_tree_model.specs.Edits.{is_long_name, IsEdit}
use Rattle.atspi_script_lines.specs.declared.deed.Deed.{Deed}
use Rattle.atspi_script_lines.specs.declared.limits.TheConstants.{APP_COUNT, READER_COUNT}
use Rattle.atspi_script_lines.specs.declared.line.Party.{Party}
use Rattle.atspi_script_lines.specs.declared.line.Party.TheVariants.{Bus as The_bus, Registry, App, Reader}
use Rattle.atspi_protocol.specs.registering.RegistryState.{RegistryState}
use Rattle.atspi_protocol.specs.exporting.Exporter.{Exporter}
use Rattle.atspi_protocol.specs.exporting.Taking.{app_edits, app_takes}
use Rattle.atspi_trace.specs.Entry.{got, exited, busy, quiet}
use Rattle.atspi_trace.specs.World.{stopped, Hearer, Role, the_registry, an_application, a_reader, Said, Letter, End, World, first_world}
use Rattle.atspi_trace.specs.Ends.{same_party, party_at, number_of, end_at, with_end, taken_down, stops, app_count, reader_count}
use Rattle.atspi_trace.specs.Causes.{Cause, renews, starts_app, starts_reader, edits, calls, swaps_face, exits, shows, tells_busy, tells_quiet, routes, unjoins, gets, Done, only, at_end, app_did, app_starts, edited_to, edited, reader_starts, called, shown, routed, ended, without_bytes, missing, took, taken, on_end, does}
use Rattle.atspi_trace.specs.Work.{of_edit, if_refused, edit_refusal, next_turn}
use Rattle.atspi_trace_laws.proofs.OfOrder.Parties.{no_none}
use Rattle.atspi_trace_laws.proofs.OfOrder.Allowed.{IsHere, Allowed}
use Rattle.atspi_trace_laws.proofs.OfOrder.Shape.{RoleFits, Shape}

-- a message went from a down link
abbrev pub received : World → ℕ → End → Letter → World
received w conn e letter = record w { bus = without_bytes conn (missing letter.said.message e.down_moved) w.bus; ends = with_end conn taken_down w.ends }

pub record AppEdits (w : World) (d : Done) : Type 0 where
  pub conn : ℕ
  pub app : ℕ
  pub e : End
  pub before : Exporter
  pub after : Exporter
  pub edit : Edit
  pub is_here : IsHere w.ends conn e
  pub whose : e.who ≡ App app
  pub role : e.role ≡ an_application before
  pub done : app_edits before edit ≡ Ok after
  pub asked : IsEdit edit
  pub is : d ≡ app_did w conn [] before after

pub record AppTakes (w : World) (d : Done) : Type 0 where
  pub conn : ℕ
  pub app : ℕ
  pub e : End
  pub before : Exporter
  pub letter : Letter
  pub rest : List Letter
  pub is_here : IsHere w.ends conn e
  pub whose : e.who ≡ App app
  pub role : e.role ≡ an_application before
  pub link : e.down ≡ letter ∷ rest
  pub is : d ≡ app_did (received w conn e letter) conn (got e.who letter.from letter.said.message.serial ∷ []) before (app_takes before letter.said.message)

pub record ReaderCalls (w : World) (d : Done) : Type 0 where
  pub conn : ℕ
  pub reader : ℕ
  pub e : End
  pub hearer : Hearer
  pub name : List ℕ
  pub node : ℕ
  pub deed : Deed
  pub is_here : IsHere w.ends conn e
  pub whose : e.who ≡ Reader reader
  pub role : e.role ≡ a_reader hearer
  pub is : d ≡ called w conn name node deed (a_reader hearer)

pub record Stopping (w : World) (d : Done) : Type 0 where
  pub conn : ℕ
  pub e : End
  pub is_here : IsHere w.ends conn e
  pub no_registry : same_party e.who Registry ≡ false
  pub is : d ≡ only (at_end w conn stops) (exited (party_at w.ends conn) ∷ [])

pub record Showing (w : World) (d : Done) : Type 0 where
  pub conn : ℕ
  pub app : ℕ
  pub reader : ℕ
  pub e : End
  pub hearer : Hearer
  pub there : end_at w.ends conn ≡ Some e
  pub whose : e.who ≡ Reader reader
  pub role : e.role ≡ a_reader hearer
  pub is : d ≡ shown w conn app (a_reader hearer)

pub record Swapping (w : World) (d : Done) : Type 0 where
  pub conn : ℕ
  pub app : ℕ
  pub e : End
  pub there : end_at w.ends conn ≡ Some e
  pub whose : e.who ≡ App app
  pub is : d ≡ only (record w { swaps = suc w.swaps }) []

pub record BusTakes (w : World) (d : Done) : Type 0 where
  pub conn : ℕ
  pub e : End
  pub said : Said
  pub rest : List Said
  pub is_here : IsHere w.ends conn e
  pub link : e.up ≡ said ∷ rest
  pub is : d ≡ routed w conn e.who (said ∷ rest)

pub record BusEnds (w : World) (d : Done) : Type 0 where
  pub conn : ℕ
  pub e : End
  pub there : end_at w.ends conn ≡ Some e
  pub standing : e.standing ≡ stopped
  pub is : d ≡ ended w conn

pub record RegistryTakes (w : World) (d : Done) : Type 0 where
  pub conn : ℕ
  pub e : End
  pub before : RegistryState
  pub letter : Letter
  pub rest : List Letter
  pub is_here : IsHere w.ends conn e
  pub whose : e.who ≡ Registry
  pub role : e.role ≡ the_registry before
  pub link : e.down ≡ letter ∷ rest
  pub is : d ≡ took (received w conn e letter) conn letter e.who (the_registry before)

pub record ReaderTakes (w : World) (d : Done) : Type 0 where
  pub conn : ℕ
  pub reader : ℕ
  pub e : End
  pub hearer : Hearer
  pub letter : Letter
  pub rest : List Letter
  pub is_here : IsHere w.ends conn e
  pub whose : e.who ≡ Reader reader
  pub role : e.role ≡ a_reader hearer
  pub link : e.down ≡ letter ∷ rest
  pub is : d ≡ took (received w conn e letter) conn letter e.who (a_reader hearer)

pub data Effect (w : World) (d : Done) : Type 0 where
  resets : (quota : ℕ) → nat_lt 1 (length w.ends) ≡ false → d ≡ only (first_world quota) [] → Effect w d
  app_joins : (name : List ℕ) → (is_long_name name ≡ false) × (nat_le APP_COUNT (app_count w.ends) ≡ false) → d ≡ app_starts w name → Effect w d
  reader_joins : nat_le READER_COUNT (reader_count w.ends) ≡ false → d ≡ reader_starts w → Effect w d
  app_edited : AppEdits w d → Effect w d
  app_took : AppTakes w d → Effect w d
  reader_called : ReaderCalls w d → Effect w d
  swapped : Swapping w d → Effect w d
  exited_ : Stopping w d → Effect w d
  showed_ : Showing w d → Effect w d
  told_busy : (turns : ℕ) → d ≡ only w (busy turns ∷ []) → Effect w d
  told_quiet : next_turn w ≡ None → d ≡ only w (quiet ∷ []) → Effect w d
  bus_took : BusTakes w d → Effect w d
  bus_ended : BusEnds w d → Effect w d
  registry_took : RegistryTakes w d → Effect w d
  reader_took : ReaderTakes w d → Effect w d

-- roles of parties, and parties of roles
pub app_role : (role : Role) (a : ℕ) → RoleFits (App a) role → (s : Exporter) × (role ≡ an_application s)
app_role (an_application s) a f = (s, refl)
app_role (the_registry s) a f = absurd f
app_role (a_reader h) a f = absurd f

pub reader_role : (role : Role) (r : ℕ) → RoleFits (Reader r) role → (h : Hearer) × (role ≡ a_reader h)
reader_role (a_reader h) r f = (h, refl)
reader_role (the_registry s) r f = absurd f
reader_role (an_application s) r f = absurd f

of_registry : (who : Party) (s : RegistryState) → RoleFits who (the_registry s) → who ≡ Registry
of_registry Registry s f = refl
of_registry The_bus s f = absurd f
of_registry (App a) s f = absurd f
of_registry (Reader r) s f = absurd f

of_app : (who : Party) (s : Exporter) → RoleFits who (an_application s) → who ≡ App (number_of who)
of_app (App a) s f = refl
of_app Registry s f = absurd f
of_app The_bus s f = absurd f
of_app (Reader r) s f = absurd f

of_reader : (who : Party) (h : Hearer) → RoleFits who (a_reader h) → who ≡ Reader (number_of who)
of_reader (Reader r) h f = refl
of_reader Registry h f = absurd f
of_reader The_bus h f = absurd f
of_reader (App a) h f = absurd f

ok_of : (r : Result Exporter EditFault) → if_refused r ≡ None → (t : Exporter) × (r ≡ Ok t)
ok_of (Ok t) h = (t, refl)
ok_of (Err fault) h = absurd (no_none (of_edit fault) (sym h))

on_known : (w : World) (conn : ℕ) (e : End) (act : End → Done) → end_at w.ends conn ≡ Some e → on_end w (end_at w.ends conn) act ≡ act e
on_known w conn e act h = ap (λ o. on_end w o act) h

edit_effect : (w : World) (conn a : ℕ) (edit : Edit) (e : End) → Shape w → IsHere w.ends conn e → e.who ≡ App a → edit_refusal edit e.role ≡ None → IsEdit edit → Effect w (does w (edits conn edit))
edit_effect w conn a edit e s h who r k =
    let f = app_role e.role a (subst (λ p. RoleFits p e.role) who (s.roles conn e h.there)) in
    let g = ok_of (app_edits f.0 edit) (ap (edit_refusal edit) (sym f.1) ∙ r) in
    app_edited (record {
      conn = conn;
      app = a;
      e = e;
      before = f.0;
      after = g.0;
      edit = edit;
      is_here = h;
      whose = who;
      role = f.1;
      done = g.1;
      asked = k;
      is = on_known w conn e (λ x. edited w conn edit x.role) h.there ∙ ap (edited w conn edit) f.1 ∙ ap (edited_to w conn f.0) g.1;
    })

call_effect : (w : World) (conn r : ℕ) (name : List ℕ) (node : ℕ) (deed : Deed) (e : End) → Shape w → IsHere w.ends conn e → e.who ≡ Reader r → Effect w (does w (calls conn name node deed))
call_effect w conn r name node deed e s h who =
    let f = reader_role e.role r (subst (λ p. RoleFits p e.role) who (s.roles conn e h.there)) in
    reader_called (record {
      conn = conn;
      reader = r;
      e = e;
      hearer = f.0;
      name = name;
      node = node;
      deed = deed;
      is_here = h;
      whose = who;
      role = f.1;
      is = on_known w conn e (λ x. called w conn name node deed x.role) h.there ∙ ap (called w conn name node deed) f.1;
    })

show_effect : (w : World) (conn app r : ℕ) (e : End) → Shape w → end_at w.ends conn ≡ Some e → e.who ≡ Reader r → Effect w (does w (shows conn app))
show_effect w conn app r e s h who =
    let f = reader_role e.role r (subst (λ p. RoleFits p e.role) who (s.roles conn e h)) in
    showed_ (record {
      conn = conn;
      app = app;
      reader = r;
      e = e;
      hearer = f.0;
      there = h;
      whose = who;
      role = f.1;
      is = on_known w conn e (λ x. shown w conn app x.role) h ∙ ap (shown w conn app) f.1;
    })

pub take_is : (w : World) (conn : ℕ) (e : End) (letter : Letter) (rest : List Letter) (role : Role) → end_at w.ends conn ≡ Some e → e.down ≡ letter ∷ rest → e.role ≡ role
    → does w (gets conn) ≡ took (received w conn e letter) conn letter e.who role
take_is w conn e letter rest role h link f =
    on_known w conn e (λ x. taken w conn x x.down) h ∙ ap (taken w conn e) link ∙ ap (took (received w conn e letter) conn letter e.who) f

take_effect : (w : World) (conn : ℕ) (e : End) (letter : Letter) (rest : List Letter) (role : Role) → Shape w → IsHere w.ends conn e → e.down ≡ letter ∷ rest → e.role ≡ role
    → Effect w (does w (gets conn))
take_effect w conn e letter rest (the_registry s) sh h link f =
    registry_took (record {
      conn = conn;
      e = e;
      before = s;
      letter = letter;
      rest = rest;
      is_here = h;
      whose = of_registry e.who s (subst (RoleFits e.who) f (sh.roles conn e h.there));
      role = f;
      link = link;
      is = take_is w conn e letter rest (the_registry s) h.there link f;
    })
take_effect w conn e letter rest (an_application s) sh h link f =
    app_took (record {
      conn = conn;
      app = number_of e.who;
      e = e;
      before = s;
      letter = letter;
      rest = rest;
      is_here = h;
      whose = of_app e.who s (subst (RoleFits e.who) f (sh.roles conn e h.there));
      role = f;
      link = link;
      is = take_is w conn e letter rest (an_application s) h.there link f;
    })
take_effect w conn e letter rest (a_reader s) sh h link f =
    reader_took (record {
      conn = conn;
      reader = number_of e.who;
      e = e;
      hearer = s;
      letter = letter;
      rest = rest;
      is_here = h;
      whose = of_reader e.who s (subst (RoleFits e.who) f (sh.roles conn e h.there));
      role = f;
      link = link;
      is = take_is w conn e letter rest (a_reader s) h.there link f;
    })

pub effect : (w : World) (c : Cause) → Shape w → Allowed w c → Effect w (does w c)
effect w (renews quota) s a = resets quota a refl
effect w (starts_app name) s a = app_joins name a refl
effect w starts_reader s a = reader_joins a refl
effect w (edits conn edit) s a = edit_effect w conn a.1 edit a.0 s a.2 a.3 a.4 a.5
effect w (calls conn name node deed) s a = call_effect w conn a.1 name node deed a.0 s a.2 a.3
effect w swaps_face s a = swapped (record { conn = a.2; app = a.1; e = a.0; there = a.3; whose = a.4; is = refl })
effect w (exits conn) s a = exited_ (record { conn = conn; e = a.0; is_here = a.1; no_registry = a.2; is = refl })
effect w (shows conn app) s a = show_effect w conn app a.1 a.0 s a.2 a.3
effect w (tells_busy turns) s a = told_busy turns refl
effect w tells_quiet s a = told_quiet a refl
effect w (routes conn) s a =
    bus_took (record {
      conn = conn;
      e = a.0;
      said = a.1;
      rest = a.2;
      is_here = a.3;
      link = a.4;
      is = on_known w conn a.0 (λ x. routed w conn x.who x.up) a.3.there ∙ ap (routed w conn a.0.who) a.4;
    })
effect w (unjoins conn) s a = bus_ended (record { conn = conn; e = a.0; there = a.1; standing = a.2; is = refl })
effect w (gets conn) s a = take_effect w conn a.0 a.1 a.2 a.0.role s a.3 a.4 refl
