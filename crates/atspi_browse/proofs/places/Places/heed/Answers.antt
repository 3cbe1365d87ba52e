use Rattle.std.proofs.Common.{refl}
use Rattle.atspi_browse.proofs.PlaceLemmas.{as_event, forgets, stays}
use Rattle.atspi_browse.proofs.places.Places.heed.Goals as goal

pub returns-in-Start : goal.returns-in-Start
returns-in-Start c = rw c.in-Start.is (stays c.args.self.now _ (λ r a n hs. refl, λ a s. refl))

pub returns-in-Step : goal.returns-in-Step
returns-in-Step c = rw c.in-Step.is (stays c.args.self.now _ (λ r a n hs. refl, λ a s. refl))

pub returns-in-Hears : goal.returns-in-Hears
returns-in-Hears c = rw c.in-Hears.is (stays c.args.self.now _ (λ r a n hs. refl, λ a s. refl))

pub returns-in-Deaf : goal.returns-in-Deaf
returns-in-Deaf c = rw c.in-Deaf.is (stays c.args.self.now _ (λ r a n hs. refl, λ a s. refl))

pub returns-in-Say : goal.returns-in-Say
returns-in-Say c = rw c.in-Say.is (stays c.args.self.now _ (λ r a n hs. refl, λ a s. refl))

pub returns-in-Show : goal.returns-in-Show
returns-in-Show c = rw c.in-Show.is (stays c.args.self.now _ (λ r a n hs. refl, λ a s. refl))

pub returns-in-Exit : goal.returns-in-Exit
returns-in-Exit c = rw c.in-Exit.is (stays c.args.self.now _ (λ r a n hs. refl, λ a s. refl))

pub returns-in-Dropped : goal.returns-in-Dropped
returns-in-Dropped c = rw c.in-Dropped.is (stays c.args.self.now _ (λ r a n hs. refl, λ a s. refl))

pub returns-in-Busy : goal.returns-in-Busy
returns-in-Busy c = rw c.in-Busy.is (stays c.args.self.now _ (λ r a n hs. refl, λ a s. refl))

pub returns-in-Quiet : goal.returns-in-Quiet
returns-in-Quiet c = rw c.in-Quiet.is (stays c.args.self.now _ (λ r a n hs. refl, λ a s. refl))

pub returns-in-Sent : goal.returns-in-Sent
returns-in-Sent c = as_event c.heed_sent.result _ _ _ _ c.in-Sent.is c.heed_sent.ensures

pub returns-in-Got : goal.returns-in-Got
returns-in-Got c = as_event c.heed_got.result _ _ _ _ c.in-Got.is c.heed_got.ensures

pub returns-in-Gone : goal.returns-in-Gone
returns-in-Gone c = rw c.in-Gone.is (forgets c.args.self.now c.forget.new.self c.in-Gone.reader c.in-Gone.app c.forget.ensures.told c.forget.ensures.forgot)
