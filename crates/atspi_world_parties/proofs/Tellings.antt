-- What an end did, among all ends.
use Rattle.std.proofs.Common.{◌≡◌, ℕ, List, sym, subst}
use Rattle.std.specs.Prelude.{Result, Ok, Err, OnOk}
use Rattle.atspi_script_lines.specs.declared.line.Party.{Party}
use Rattle.atspi_script_lines.specs.declared.line.Party.TheVariants.{App, Reader}
use Rattle.atspi_protocol.specs.exporting.Exporter.{Exporter}
use Rattle.atspi_protocol.specs.following.ReaderState.{ReaderState}
use Rattle.atspi_trace_events.specs.declared.event.Event.{Event}
use Rattle.atspi_world_links.specs.declared.post.Post.{Post}
use Rattle.atspi_world_parties.specs.Doing.{TellsAt, TellsReaderAt}
use Rattle.atspi_world_parties.specs.Taken.{Ends, Tells}

pub app_tells : {T F : Type 0} (r : Result T F) (who : Party) (a conn : ℕ) (ends ends' : Ends) (before after : List Exporter) (posts posts' : List Post) (old new : List Event) → who ≡ App a → before ≡ ends.apps → after ≡ ends'.apps
    → ends'.registry ≡ ends.registry → ends'.readers ≡ ends.readers → OnOk r (TellsAt before after a conn posts posts' old new) → OnOk r (Tells who conn ends ends' posts posts' old new)
app_tells (Ok t) who a conn ends ends' before after posts posts' old new is was now registry readers told =
    subst (λ w. Tells w conn ends ends' posts posts' old new) (sym is)
    (subst (λ l. TellsAt l ends'.apps a conn posts posts' old new) was (subst (λ l. TellsAt before l a conn posts posts' old new) now told), (registry, readers))
app_tells (Err t) who a conn ends ends' before after posts posts' old new is was now registry readers told = tt

pub reader_tells : {T F : Type 0} (r : Result T F) (who : Party) (n conn : ℕ) (ends ends' : Ends) (before after : List ReaderState) (posts posts' : List Post) (old new : List Event) → who ≡ Reader n
    → before ≡ ends.readers → after ≡ ends'.readers → ends'.registry ≡ ends.registry → ends'.apps ≡ ends.apps → OnOk r (TellsReaderAt before after n conn posts posts' old new) → OnOk r (Tells who conn ends ends' posts posts' old new)
reader_tells (Ok t) who n conn ends ends' before after posts posts' old new is was now registry apps told =
    subst (λ w. Tells w conn ends ends' posts posts' old new) (sym is)
    (subst (λ l. TellsReaderAt l ends'.readers n conn posts posts' old new) was (subst (λ l. TellsReaderAt before l n conn posts posts' old new) now told), (registry, apps))
reader_tells (Err t) who n conn ends ends' before after posts posts' old new is was now registry apps told = tt
