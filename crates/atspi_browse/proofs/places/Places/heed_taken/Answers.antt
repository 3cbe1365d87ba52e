use Rattle.std.proofs.Common.{refl}
use Rattle.atspi_browse.proofs.PlaceLemmas.{moved_on, taken_still}
use Rattle.atspi_browse.proofs.places.Places.heed_taken.Goals as goal

pub returns-in-Bus : goal.returns-in-Bus
returns-in-Bus c = rw c.in-Bus.is (taken_still c.args.self.now c.args.reader c.args.serial _ (λ a. refl))

pub returns-in-Registry : goal.returns-in-Registry
returns-in-Registry c = rw c.in-Registry.is (taken_still c.args.self.now c.args.reader c.args.serial _ (λ a. refl))

pub returns-in-Reader : goal.returns-in-Reader
returns-in-Reader c = rw c.in-Reader.is (taken_still c.args.self.now c.args.reader c.args.serial _ (λ a. refl))

pub returns-in-App : goal.returns-in-App
returns-in-App c = rw c.in-App.is (moved_on c.take.result c.args.self.now c.take.new.self c.args.reader c.in-App.app c.args.serial c.take.ensures.small c.take.ensures.told c.take.ensures.moved)
