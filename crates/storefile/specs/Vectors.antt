-- How the worked files are judged.
use Rattle.std.specs.Prelude.{◌≡◌, ◌*◌, [], ◌∷◌, ◌++◌, replicate, slice_set, Some, take}
use Rattle.roadnet.specs.declared.commands.Command.TheVariants.{Set, Close, Reopen, Lay}
use Rattle.roadnet.specs.declared.refusals.Refusal.TheVariants.{NotAStore, WrongFormat, Damaged}
use Rattle.pages.specs.declared.content.Slot.TheVariants.{A}
use Rattle.pages.specs.Spelling.{arc_page, word_page, head_page, entry_page}
use Rattle.pages.specs.declared.content.Format.TheVariants.{One, Two}
use Rattle.pages.specs.Limits.{page_size}
use Rattle.storefile.specs.Judging.{judged, judged_in, opened, opened_in}
use Rattle.storefile.specs.Examples.{arc, open_word, six_words, new_head, opened_page, blank_page, created, sixty_four, roomy, nine_head, old_file, standing}

-- files of the six nodes with 64 journal pages
pub record FileExamples : Type 0 where
  pub none : standing (opened created) ≡ Some (A, 1, 0, 8, 0)
  pub cut : judged (take (page_size * 69) created) ≡ Some (Damaged 0)
  pub other_magic : judged (slice_set created 0 0) ≡ Some NotAStore
  pub other_format : judged (slice_set created 11 9) ≡ Some WrongFormat
  pub no_command : judged (sixty_four (opened_page (entry_page (record { sequence = 0; first_number = 1; groups = [] })))) ≡ Some (Damaged 6)
  pub not_admitted : judged (sixty_four (opened_page (entry_page (record { sequence = 0; first_number = 1; groups = (Reopen 7 ∷ []) ∷ [] })))) ≡ Some (Damaged 6)
  pub other_number : judged (sixty_four (opened_page (entry_page (record { sequence = 0; first_number = 2; groups = (Set 1 1 ∷ []) ∷ [] })))) ≡ Some (Damaged 6)
  pub closed_slot : judged (slice_set created 12287 0) ≡ Some (Damaged 2)
  pub blank_slot : standing (opened (slice_set created 20479 165)) ≡ Some (A, 1, 0, 8, 0)
  pub equal_epochs : judged (slice_set (slice_set created 20479 165) 16391 1) ≡ Some (Damaged 4)
  pub later_blank : judged (slice_set (slice_set created 20479 165) 16391 2) ≡ Some (Damaged 4)
  pub ninth_word : judged (slice_set created 12323 1) ≡ Some (Damaged 3)
  pub no_tail : judged (slice_set created 4099 0) ≡ Some (Damaged 1)
  pub seventh_node : judged (slice_set created 4099 7) ≡ Some (Damaged 1)
  pub other_journal : judged (slice_set created 23 63) ≡ Some (Damaged 0)
  pub most_arcs : judged (slice_set (slice_set created 19 0) 16 4) ≡ Some (Damaged 0)
  pub no_node : judged (slice_set created 15 0) ≡ Some (Damaged 0)
  pub other_sequence : standing (opened (sixty_four (opened_page (slice_set blank_page 7 1)))) ≡ Some (A, 1, 0, 8, 0)
  pub full_page : standing (opened (sixty_four (opened_page (entry_page (record { sequence = 0; first_number = 1; groups = replicate 253 (Set 1 1 ∷ []) }))))) ≡ Some (A, 1, 253, 8, 1)

-- groups: a group counts once, and one that goes on behind the last record is damage
pub record GroupExamples : Type 0 where
  pub one_group : standing (opened (sixty_four (opened_page (entry_page (record { sequence = 0; first_number = 1; groups = (Close 7 ∷ Set 8 4 ∷ []) ∷ [] }))))) ≡ Some (A, 1, 1, 8, 1)
  pub goes_on : judged (slice_set (sixty_four (opened_page (entry_page (record { sequence = 0; first_number = 1; groups = (Close 7 ∷ Set 8 4 ∷ []) ∷ [] })))) 24625 1) ≡ Some (Damaged 6)

-- room for ten: an arc that is laid in the journal, one that a slot holds, one too many ends or words, a number of arcs that is too great or too
-- small
pub record RoomExamples : Type 0 where
  pub laid : standing (opened (roomy (head_page Two new_head) (word_page six_words) blank_page (opened_page (entry_page (record { sequence = 0; first_number = 1; groups = (Lay 6 1 7 ∷ []) ∷ [] }))))) ≡ Some (A, 1, 1, 9, 1)
  pub no_room : judged (sixty_four (opened_page (entry_page (record { sequence = 0; first_number = 1; groups = (Lay 6 1 7 ∷ []) ∷ [] })))) ≡ Some (Damaged 6)
  pub held : standing (opened (roomy (head_page Two nine_head) (word_page (six_words ++ open_word 7 ∷ [])) (arc_page (arc 6 1 ∷ [])) blank_page)) ≡ Some (A, 1, 1, 9, 0)
  pub no_end : judged (roomy (head_page Two nine_head) (word_page (six_words ++ open_word 7 ∷ [])) blank_page blank_page) ≡ Some (Damaged 4)
  pub more_ends : judged (roomy (head_page Two new_head) (word_page six_words) (arc_page (arc 6 1 ∷ [])) blank_page) ≡ Some (Damaged 4)
  pub more_words : judged (roomy (head_page Two new_head) (word_page (six_words ++ open_word 7 ∷ [])) blank_page blank_page) ≡ Some (Damaged 3)
  pub too_many : judged (roomy (head_page Two (record nine_head { arcs = 11 })) (word_page six_words) blank_page blank_page) ≡ Some (Damaged 2)
  pub too_few : judged (roomy (head_page Two (record nine_head { arcs = 7 })) (word_page six_words) blank_page blank_page) ≡ Some (Damaged 2)

-- Format 1 is no format of today's stores, nor today's that of a migration. A `lay` or a group of two is damage in format 1.
pub record OldExamples : Type 0 where
  pub old : standing (opened_in One (old_file (opened_page (entry_page (record { sequence = 0; first_number = 1; groups = (Close 7 ∷ []) ∷ [] }))))) ≡ Some (A, 1, 1, 8, 1)
  pub old_today : judged (old_file blank_page) ≡ Some WrongFormat
  pub today_as_old : judged_in One created ≡ Some WrongFormat
  pub old_lay : judged_in One (old_file (opened_page (entry_page (record { sequence = 0; first_number = 1; groups = (Lay 6 1 7 ∷ []) ∷ [] })))) ≡ Some (Damaged 6)
  pub old_group : judged_in One (old_file (opened_page (entry_page (record { sequence = 0; first_number = 1; groups = (Close 7 ∷ Set 8 4 ∷ []) ∷ [] })))) ≡ Some (Damaged 6)
