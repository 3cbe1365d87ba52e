use Rattle.std.proofs.Common.{refl}
use Rattle.atspi_browse.proofs.PlaceLemmas.{noted_so, stays}
use Rattle.atspi_browse.proofs.places.Places.heed_sent.Goals as goal

pub returns-in-Bus : goal.returns-in-Bus
returns-in-Bus c = rw c.in-Bus.is (stays c.args.self.now _ (λ r a n hs. refl, λ a s. refl))

pub returns-in-Registry : goal.returns-in-Registry
returns-in-Registry c = rw c.in-Registry.is (stays c.args.self.now _ (λ r a n hs. refl, λ a s. refl))

pub returns-in-Reader : goal.returns-in-Reader
returns-in-Reader c = rw c.in-Reader.is (stays c.args.self.now _ (λ r a n hs. refl, λ a s. refl))

pub returns-in-App : goal.returns-in-App
returns-in-App c = rw c.in-App.is (noted_so c.note.result c.args.self.now c.note.new.self c.in-App.app c.args.message.now c.note.ensures.cursors c.note.ensures.told)
