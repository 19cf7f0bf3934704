-- Pages on their limits, by computation: 108 entries with 4,086 body bytes and with 4,087, checked and built; 681
-- entries.
-- Assumes nothing.
use mathlib.Core.List.{[]}
use mathlib.Core.Path.{◌≡◌, refl}
use Rattle.format.specs.Answer.{Answer}
use Rattle.format.specs.Page.{page_refusal, check_page}
use Rattle.format.specs.Normal.{page_under, normal_page}
use Rattle.format.specs.Edit.{record_of}
use Rattle.format.specs.Build.{build}
use Rattle.format.proofs.Samples.{zeros, inserts, full, blank}

-- 5: 4,086 body bytes, and one bit more
body_4086 : check_page (normal_page 7 (full 238)) ≡ Answer.Value (record { number = 7; n = 108; m = 64; q = 2; bits = 27504 })
unfolding check_page normal_page full
body_4086 = refl

body_4087 : page_refusal (page_under 7 (full 239) 64 2) ≡ 5
unfolding page_refusal page_under full
body_4087 = refl

-- 14: the same entries, built; 14 comes before 15
room_4086 : (build [] (record_of (inserts (full 238))) 7 (zeros 4096) (zeros 2)).answer
    ≡ Answer.Value (record { n = 108; m = 64; q = 2; bits = 27504; undo = 2 })
unfolding build record_of inserts full
room_4086 = refl

room_4087 : (build [] (record_of (inserts (full 239))) 7 (zeros 4096) (zeros 1)).answer ≡ Answer.Refused 14
unfolding build record_of inserts full
room_4087 = refl

-- 5: 681 entries are not too many; these have no bits
count_681 : page_refusal (blank 681 1 0 [] [] 4086) ≡ 7
unfolding page_refusal blank
count_681 = refl
