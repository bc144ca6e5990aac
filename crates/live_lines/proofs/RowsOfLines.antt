-- Worked rows: lines that are requests, and lines with each fault.
use Rattle.std.proofs.Common.{◌≡◌, [], ◌∷◌, true, false, Some, None, refl, codes}
use Rattle.decimal_number.specs.Decimal.{number_of}
use Rattle.move_journal.specs.Words.{called, word_list}
use Rattle.rail_model.specs.Names.{Names}
use Rattle.live_yard.specs.declared.requests.Request.TheVariants.{Ask, Drop, Table}
use Rattle.live_lines.specs.declared.calls.Call.TheVariants.{Serve, Can, State}
use Rattle.live_lines.specs.declared.calls.Fault.TheVariants.{Byte, Tag, Verb, Words, Train, Reports}
use Rattle.live_lines.specs.declared.calls.Heard.TheVariants.{Empty, Asked, Refused}
use Rattle.live_lines.specs.Hearing.{heard, heard_words, is_tag}
use Rattle.live_lines.specs.Verbs.{at_of, call_of, can_of, verb_in}
use Rattle.live_lines.specs.Words.{number_word}

names : Names
names = record { points = []; trains = codes "T0" ∷ codes "T1" ∷ [] }

empty : heard names false [] ≡ Empty
unfolding heard
empty = refl

ask : heard names false (codes "ask T1 4") ≡ Asked 0 (Serve (Ask 1 (Some 4)))
unfolding names heard heard_words is_tag call_of verb_in called number_word number_of word_list
ask = refl

-- the tag has three bytes, with its #
tagged : heard names false (codes "#a1 drop T0") ≡ Asked 3 (Serve (Drop 0))
unfolding names heard heard_words is_tag call_of verb_in called word_list
tagged = refl

all : heard names false (codes "can *") ≡ Asked 0 (Can None)
unfolding heard heard_words is_tag call_of can_of verb_in word_list
all = refl

state : heard names false (codes "state") ≡ Asked 0 State
unfolding heard heard_words is_tag call_of verb_in word_list
state = refl

-- a number past the greatest counts as the greatest
great : heard names false (codes "table 4294967296") ≡ Asked 0 (Serve (Table (Some 4294967295)))
unfolding heard heard_words is_tag call_of verb_in number_word number_of word_list
great = refl

foreign : heard names false (codes "ask\tT0") ≡ Refused 0 (Byte 3)
unfolding heard
foreign = refl

bad_tag : heard names false (codes "#a! ping") ≡ Refused 0 Tag
unfolding heard heard_words is_tag word_list
bad_tag = refl

tag_alone : heard names false (codes "#a") ≡ Refused 2 Verb
unfolding heard heard_words is_tag call_of word_list
tag_alone = refl

place_too_many : heard names false (codes "why T0 1") ≡ Refused 0 Words
unfolding heard heard_words is_tag call_of verb_in word_list
place_too_many = refl

no_reports : heard names false (codes "at T9 x") ≡ Refused 0 Reports
unfolding heard heard_words is_tag call_of at_of verb_in word_list
no_reports = refl

-- the train comes before the number
unknown_train : heard names true (codes "at T9 x") ≡ Refused 0 Train
unfolding names heard heard_words is_tag call_of at_of verb_in called word_list
unknown_train = refl

no_number : heard names true (codes "at T0 01") ≡ Refused 0 Words
unfolding names heard heard_words is_tag call_of at_of verb_in called number_word number_of word_list
no_number = refl
