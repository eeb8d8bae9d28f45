-- What a decoder tells of a page is what is found in it.
use Rattle.std.proofs.Common.{◌≡◌, ℕ, ◌^◌, ◌<◌, List, Option, Some, None, refl}
use Rattle.pages.specs.declared.header.Header.{Header}
use Rattle.pages.specs.declared.content.Format.{Format}
use Rattle.pages.specs.declared.content.Ends.{Ends}
use Rattle.pages.specs.declared.content.Word.{Word}
use Rattle.pages.specs.Contents.{Head, Entry}
use Rattle.pages.specs.Spelling.{Decodes, IsHeader, SpelledHeader, SpelledArcs, SpelledWords, SpelledHead, SpelledEntry}
use Rattle.pages.proofs.Records.{IsBytes}
use Rattle.storefile.specs.Judging.{header_in, arcs_in, words_in, head_in, entry_in}
use Rattle.storefile.proofs.Opened.{header_found, arcs_found, words_found, head_found, entry_found}
use Rattle.storefile.proofs.Sound.{header_spelled, arcs_spelled, words_spelled, head_spelled, entry_spelled}

-- what is found where something is spelled and only there
told : {X : Type 0} (Spelled : X → Type 0) (found decoded : Option X) → ((x : X) → Spelled x → found ≡ Some x) → ((x : X) → found ≡ Some x → Spelled x) → Decodes Spelled decoded → found ≡ decoded
told Spelled found (Some x) finds spells tells = finds x tells
told Spelled None None finds spells tells = refl
told Spelled (Some y) None finds spells tells = absurd (tells y (spells y refl))

pub decoded_header : (page : List ℕ) (decoded : Option Header) → Decodes (SpelledHeader page) decoded → header_in page ≡ decoded
decoded_header page decoded tells = told (SpelledHeader page) (header_in page) decoded (header_found page) (header_spelled page) tells

pub decoded_arcs : (nodes count : ℕ) (page : List ℕ) (decoded : Option (List Ends)) → nodes < 2 ^ 32 → Decodes (SpelledArcs nodes count page) decoded → arcs_in nodes count page ≡ decoded
decoded_arcs nodes count page decoded lt tells = told (SpelledArcs nodes count page) (arcs_in nodes count page) decoded (λ x s. arcs_found nodes count page x lt s) (arcs_spelled nodes count page) tells

pub decoded_words : (count : ℕ) (page : List ℕ) (decoded : Option (List Word)) → IsBytes page → Decodes (SpelledWords count page) decoded → words_in count page ≡ decoded
decoded_words count page decoded is tells = told (SpelledWords count page) (words_in count page) decoded (words_found count page) (words_spelled count page) tells

pub decoded_head : (h : Header) (page : List ℕ) (decoded : Option Head) → IsHeader h → Decodes (SpelledHead h page) decoded → head_in h page ≡ decoded
decoded_head h page decoded ok tells = told (SpelledHead h page) (head_in h page) decoded (λ x s. head_found h page x ok s) (head_spelled h page) tells

pub decoded_entry : (f : Format) (page : List ℕ) (decoded : Option Entry) → Decodes (SpelledEntry f page) decoded → entry_in f page ≡ decoded
decoded_entry f page decoded tells = told (SpelledEntry f page) (entry_in f page) decoded (entry_found f page) (entry_spelled f page) tells
