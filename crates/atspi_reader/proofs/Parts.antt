-- A part that a reply told is wanted no more, as one that was refused is.
use Rattle.std.proofs.Common.{◌≡◌, ℕ, List, Option, Some, None, refl, sym}
use Rattle.atspi_message.specs.Envelope.{Envelope}
use Rattle.atspi_tree_model.specs.declared.news.News.{News}
use Rattle.atspi_protocol.specs.declared.news.part.PartName.{PartName}
use Rattle.atspi_protocol.specs.news.Replies.{part_told}
use Rattle.atspi_protocol.specs.following.ReaderState.{Followed}
use Rattle.atspi_protocol.specs.following.Wishes.{wishes}
use Rattle.atspi_protocol.specs.following.Replied.{changed, told_part, refused_part}
use Rattle.atspi_reader_known.specs.Wanted.{first}
use Rattle.atspi_reader_known.proofs.Tells.{part_tells}
use Rattle.atspi_reader_known.proofs.Told.{first_changed, part_settled}
use Rattle.atspi_reader.specs.inner.Turns.{parted}
use Rattle.atspi_reader.proofs.Replies.{part_comes}

pub part_wish : (part : PartName) (path : List ℕ) (e : Envelope) (o : Option News) (name : List ℕ) (apps : List Followed) → o ≡ part_told part path e
    → first (wishes (changed (refused_part path part) name apps)) ≡ first (wishes (changed (parted o path part) name apps))
part_wish part path e None name apps h = refl
part_wish part path e (Some news) name apps h =
    sym (first_changed (told_part news) (refused_part path part) name (part_settled path part news (part_tells part path e.body news (part_comes part path e news (sym h)))) apps)
