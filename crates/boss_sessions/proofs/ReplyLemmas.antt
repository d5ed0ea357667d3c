-- Replies one behind another: their texts and entries, and the attach among them.
use Rattle.std.proofs.Common.{◌≡◌, ℕ, zero, suc, ◌+◌, ◌<◌, ◌≤◌, Bool, true, false, ◌||◌, List, [], ◌∷◌, ◌++◌, length, map, drop, get_or, take, Option, Some, None, refl, ap, sym, ◌∙◌, append_assoc, append-nil, subst, arith}
use Rattle.std.specs.List.{flat_map}
use Rattle.std.proofs.lemmas.List.{drop_all}
use Rattle.boss_model.specs.declared.answer.Answer.{Answer}
use Rattle.boss_model.specs.declared.command.Command.{Command}
use Rattle.boss_model.specs.declared.command.Command.TheVariants as command
use Rattle.boss_model.specs.Catalogue.{Catalogue}
use Rattle.def_wire.specs.Texts.{answer_text, denied_text, line_of, memory_text, stopped_text}
use Rattle.def_history.specs.declared.entry.Entry.TheVariants.{Did}
use Rattle.def_history.specs.declared.outcome.Outcome.{Outcome}
use Rattle.def_history.specs.declared.outcome.Outcome.TheVariants.{Done, Stopped, DiskFault, NoMemory, Denied}
use Rattle.def_history.specs.Made.{done_by}
use Rattle.boss_outside.specs.Streams.{TakesFront}
use Rattle.boss_keys.specs.declared.entry.Entry.{Entry}
use Rattle.boss_sessions.specs.Replies.{Puts}
use Rattle.boss_sessions.specs.Speaking.{speech_of}
use Rattle.def_connection.specs.Batches.{deeds_by, texts_by}
use Rattle.def_connection.specs.Speech.{Reply, of_answer, of_memory, of_stop, of_denial, Gate, Speech, attaches_by, entry_of}
use Rattle.boss_sessions.specs.Turns.{last_reply, replies_of, rest_of, attached_by, AreGoing, StopsOnce}
use Rattle.boss_sessions.proofs.PutLemmas.{front-more, puts-front}

-- ---- texts

pub texts-append : (speech : Speech) (xs ys : List Reply) → texts_by speech (xs ++ ys) ≡ texts_by speech xs ++ texts_by speech ys
texts-append speech [] ys = refl
texts-append speech (x ∷ xs) ys = ap (λ rest. speech.reply_text x ++ rest) (texts-append speech xs ys) ∙ sym (append_assoc (speech.reply_text x) (texts_by speech xs) (texts_by speech ys))

pub texts-answers : (catalogue : Catalogue) (gates : List Gate) (keys : Option (List Entry)) (answers : List Answer) →
    texts_by (speech_of catalogue gates keys) (map of_answer answers) ≡ flat_map (λ answer. line_of (answer_text catalogue answer)) answers
texts-answers catalogue gates keys [] = refl
texts-answers catalogue gates keys (answer ∷ answers) = ap (λ rest. line_of (answer_text catalogue answer) ++ rest) (texts-answers catalogue gates keys answers)

pub texts-rest : (catalogue : Catalogue) (gates : List Gate) (keys : Option (List Entry)) (rest : Option Outcome) → texts_by (speech_of catalogue gates keys) (last_reply rest) ≡ rest_of rest
texts-rest catalogue gates keys None = refl
texts-rest catalogue gates keys (Some (Done answer)) = refl
texts-rest catalogue gates keys (Some Stopped) = append-nil (line_of stopped_text)
texts-rest catalogue gates keys (Some DiskFault) = append-nil (line_of stopped_text)
texts-rest catalogue gates keys (Some NoMemory) = append-nil (line_of memory_text)
texts-rest catalogue gates keys (Some (Denied index rule)) = append-nil (line_of (denied_text index rule))

pub texts-replies : (catalogue : Catalogue) (gates : List Gate) (keys : Option (List Entry)) (answers : List Answer) (rest : Option Outcome) →
    texts_by (speech_of catalogue gates keys) (replies_of answers rest) ≡ flat_map (λ answer. line_of (answer_text catalogue answer)) answers ++ rest_of rest
texts-replies catalogue gates keys answers rest = texts-append (speech_of catalogue gates keys) (map of_answer answers) (last_reply rest)
    ∙ (λ i. texts-answers catalogue gates keys answers i ++ texts-rest catalogue gates keys rest i)

-- ---- entries

-- a last reply that is no answer has none
behind-none : (session : ℕ) (calls : List (Command × ℕ)) (answers : List Answer) (reply : Reply) → ((asked : Command) (moment : ℕ) → entry_of session asked moment reply ≡ []) →
    deeds_by session calls (map of_answer answers ++ reply ∷ []) ≡ done_by session calls answers
behind-none session [] [] reply none = refl
behind-none session [] (answer ∷ answers) reply none = refl
behind-none session (call ∷ []) [] reply none = append-nil (entry_of session call.0 call.1 reply) ∙ none call.0 call.1
behind-none session (call ∷ next ∷ calls) [] reply none = append-nil (entry_of session call.0 call.1 reply) ∙ none call.0 call.1
behind-none session (call ∷ calls) (answer ∷ answers) reply none = ap (λ rest. Did session call.0 call.1 answer ∷ rest) (behind-none session calls answers reply none)

answered-alone : (session : ℕ) (calls : List (Command × ℕ)) (answers : List Answer) → deeds_by session calls (map of_answer answers ++ []) ≡ done_by session calls answers
answered-alone session [] [] = refl
answered-alone session [] (answer ∷ answers) = refl
answered-alone session (call ∷ calls) [] = refl
answered-alone session (call ∷ calls) (answer ∷ answers) = ap (λ rest. Did session call.0 call.1 answer ∷ rest) (answered-alone session calls answers)

pub deeds-replies : (session : ℕ) (calls : List (Command × ℕ)) (answers : List Answer) (rest : Option Outcome) → deeds_by session calls (replies_of answers rest) ≡ done_by session calls answers
deeds-replies session calls answers None = answered-alone session calls answers
deeds-replies session calls answers (Some (Done answer)) = answered-alone session calls answers
deeds-replies session calls answers (Some Stopped) = behind-none session calls answers of_stop (λ asked moment. refl)
deeds-replies session calls answers (Some DiskFault) = behind-none session calls answers of_stop (λ asked moment. refl)
deeds-replies session calls answers (Some NoMemory) = behind-none session calls answers of_memory (λ asked moment. refl)
deeds-replies session calls answers (Some (Denied index rule)) = behind-none session calls answers (of_denial index rule) (λ asked moment. refl)

pub none-done : (session : ℕ) (calls : List (Command × ℕ)) → deeds_by session calls [] ≡ []
none-done session [] = refl
none-done session (call ∷ calls) = refl

pub deeds-append : (session : ℕ) (calls : List (Command × ℕ)) (xs ys : List Reply) →
    deeds_by session calls (xs ++ ys) ≡ deeds_by session calls xs ++ deeds_by session (drop (length xs) calls) ys
deeds-append session calls [] ys = ap (λ front. front ++ deeds_by session calls ys) (sym (none-done session calls))
deeds-append session [] (x ∷ xs) [] = refl
deeds-append session [] (x ∷ xs) (y ∷ ys) = refl
deeds-append session (call ∷ calls) (x ∷ xs) ys = ap (λ rest. entry_of session call.0 call.1 x ++ rest) (deeds-append session calls xs ys)
    ∙ sym (append_assoc (entry_of session call.0 call.1 x) (deeds_by session calls xs) (deeds_by session (drop (length xs) calls) ys))

-- ---- an attach

pub memory-attaches : (asked : Command) → attaches_by asked of_memory ≡ false
memory-attaches (command.Attach name) = refl
memory-attaches (command.Submit writes policy seq) = refl
memory-attaches (command.Renew txn length points seq) = refl
memory-attaches (command.Cancel txn seq) = refl
memory-attaches command.Gone = refl
memory-attaches command.Tick = refl
memory-attaches (command.Next driver) = refl
memory-attaches (command.Report point version ok) = refl
memory-attaches (command.Doubt point differs) = refl
memory-attaches (command.Read point) = refl
memory-attaches (command.Array point) = refl
memory-attaches (command.Status txn) = refl
memory-attaches (command.Notices name from most) = refl
memory-attaches (command.Points from most) = refl
memory-attaches command.Version = refl

pub stop-attaches : (asked : Command) → attaches_by asked of_stop ≡ false
stop-attaches (command.Attach name) = refl
stop-attaches (command.Submit writes policy seq) = refl
stop-attaches (command.Renew txn length points seq) = refl
stop-attaches (command.Cancel txn seq) = refl
stop-attaches command.Gone = refl
stop-attaches command.Tick = refl
stop-attaches (command.Next driver) = refl
stop-attaches (command.Report point version ok) = refl
stop-attaches (command.Doubt point differs) = refl
stop-attaches (command.Read point) = refl
stop-attaches (command.Array point) = refl
stop-attaches (command.Status txn) = refl
stop-attaches (command.Notices name from most) = refl
stop-attaches (command.Points from most) = refl
stop-attaches command.Version = refl

pub denial-attaches : (index rule : ℕ) (asked : Command) → attaches_by asked (of_denial index rule) ≡ false
denial-attaches index rule (command.Attach name) = refl
denial-attaches index rule (command.Submit writes policy seq) = refl
denial-attaches index rule (command.Renew txn length points seq) = refl
denial-attaches index rule (command.Cancel txn seq) = refl
denial-attaches index rule command.Gone = refl
denial-attaches index rule command.Tick = refl
denial-attaches index rule (command.Next driver) = refl
denial-attaches index rule (command.Report point version ok) = refl
denial-attaches index rule (command.Doubt point differs) = refl
denial-attaches index rule (command.Read point) = refl
denial-attaches index rule (command.Array point) = refl
denial-attaches index rule (command.Status txn) = refl
denial-attaches index rule (command.Notices name from most) = refl
denial-attaches index rule (command.Points from most) = refl
denial-attaches index rule command.Version = refl

or-false : (b : Bool) → (b || false) ≡ b
or-false true = refl
or-false false = refl

or-assoc : (a b c : Bool) → (a || (b || c)) ≡ ((a || b) || c)
or-assoc true b c = refl
or-assoc false b c = refl

attached-behind : (calls : List (Command × ℕ)) (answers : List Answer) (reply : Reply) → ((asked : Command) → attaches_by asked reply ≡ false) →
    attached_by calls (map of_answer answers ++ reply ∷ []) ≡ attached_by calls (map of_answer answers)
attached-behind [] [] reply none = refl
attached-behind [] (answer ∷ answers) reply none = refl
attached-behind (call ∷ []) [] reply none = ap (λ b. b || false) (none call.0)
attached-behind (call ∷ next ∷ calls) [] reply none = ap (λ b. b || false) (none call.0)
attached-behind (call ∷ calls) (answer ∷ answers) reply none = ap (λ rest. attaches_by call.0 (of_answer answer) || rest) (attached-behind calls answers reply none)

pub attached-replies : (calls : List (Command × ℕ)) (answers : List Answer) (rest : Option Outcome) → attached_by calls (replies_of answers rest) ≡ attached_by calls (map of_answer answers)
attached-replies calls answers None = ap (attached_by calls) (append-nil (map of_answer answers))
attached-replies calls answers (Some (Done answer)) = ap (attached_by calls) (append-nil (map of_answer answers))
attached-replies calls answers (Some Stopped) = attached-behind calls answers of_stop stop-attaches
attached-replies calls answers (Some DiskFault) = attached-behind calls answers of_stop stop-attaches
attached-replies calls answers (Some NoMemory) = attached-behind calls answers of_memory memory-attaches
attached-replies calls answers (Some (Denied index rule)) = attached-behind calls answers (of_denial index rule) (denial-attaches index rule)

pub attached-append : (calls : List (Command × ℕ)) (xs ys : List Reply) → attached_by calls (xs ++ ys) ≡ (attached_by calls xs || attached_by (drop (length xs) calls) ys)
attached-append [] [] ys = refl
attached-append (call ∷ calls) [] ys = refl
attached-append [] (x ∷ xs) [] = refl
attached-append [] (x ∷ xs) (y ∷ ys) = refl
attached-append (call ∷ calls) (x ∷ xs) ys = ap (λ rest. attaches_by call.0 x || rest) (attached-append calls xs ys)
    ∙ or-assoc (attaches_by call.0 x) (attached_by calls xs) (attached_by (drop (length xs) calls) ys)

pub attached-then : (before : Bool) (calls : List (Command × ℕ)) (xs ys : List Reply) →
    ((before || attached_by calls xs) || attached_by (drop (length xs) calls) ys) ≡ (before || attached_by calls (xs ++ ys))
attached-then before calls xs ys = sym (or-assoc before (attached_by calls xs) (attached_by (drop (length xs) calls) ys)) ∙ ap (λ rest. before || rest) (sym (attached-append calls xs ys))

pub none-attached : (calls : List (Command × ℕ)) → attached_by calls [] ≡ false
none-attached [] = refl
none-attached (call ∷ calls) = refl

-- behind the last answer there is none
pub attached-end : (calls : List (Command × ℕ)) (answers : List Answer) (place : ℕ) → length answers ≤ place → attached_by (drop place calls) (map of_answer (drop place answers)) ≡ false
attached-end calls answers place all = ap (λ list. attached_by (drop place calls) (map of_answer list)) (drop_all place answers all) ∙ none-attached (drop place calls)

-- ---- stops

pub answers-go : (answers : List Answer) → AreGoing (map of_answer answers)
answers-go [] = tt
answers-go (answer ∷ answers) = (refl, answers-go answers)

pub going-append : (xs ys : List Reply) → AreGoing xs → AreGoing ys → AreGoing (xs ++ ys)
going-append [] ys first then = then
going-append (x ∷ xs) ys first then = (first.0, going-append xs ys first.1 then)

pub once-append : (xs ys : List Reply) → AreGoing xs → StopsOnce ys → StopsOnce (xs ++ ys)
once-append [] ys first then = then
once-append (x ∷ xs) ys first then = ((λ is. absurd (let no : true ≡ false = sym is ∙ first.0 in cc)), once-append xs ys first.1 then)

pub once-last : (rest : Option Outcome) → StopsOnce (last_reply rest)
once-last None = tt
once-last (Some (Done answer)) = tt
once-last (Some Stopped) = ((λ is. refl), tt)
once-last (Some DiskFault) = ((λ is. refl), tt)
once-last (Some NoMemory) = ((λ is. refl), tt)
once-last (Some (Denied index rule)) = ((λ is. refl), tt)

pub replies-once : (answers : List Answer) (rest : Option Outcome) → StopsOnce (replies_of answers rest)
replies-once answers rest = once-append (map of_answer answers) (last_reply rest) (answers-go answers) (once-last rest)

pub length-answers : (answers : List Answer) (last : List Reply) → length (map of_answer answers ++ last) ≡ length answers + length last
length-answers [] last = omega arith
length-answers (answer ∷ answers) last = omega (arith, length-answers answers last)

-- ---- answers that are put one behind another

flat-suc : {X : Type 0} (f : X → List ℕ) (xs : List X) (place : ℕ) (x : X) → place < length xs → x ≡ get_or xs place x →
    flat_map f (take (suc place) xs) ≡ flat_map f (take place xs) ++ f x
flat-suc f [] place x low is = absurd (omega arith)
flat-suc f (y ∷ ys) zero x low is = append-nil (f y) ∙ ap f (sym is)
flat-suc f (y ∷ ys) (suc place) x low is = ap (λ rest. f y ++ rest) (flat-suc f ys place x (omega arith) is) ∙ sym (append_assoc (f y) (flat_map f (take place ys)) (f x))

pub flat-next : {X : Type 0} (f : X → List ℕ) (xs : List X) (place next : ℕ) (x : X) → next ≡ suc place → place < length xs → x ≡ get_or xs place x →
    flat_map f (take next xs) ≡ flat_map f (take place xs) ++ f x
flat-next f xs place next x is low at = ap (λ n. flat_map f (take n xs)) is ∙ flat-suc f xs place x low at

flat-split : {X : Type 0} (f : X → List ℕ) (xs : List X) (place : ℕ) (x : X) → place < length xs → x ≡ get_or xs place x →
    flat_map f xs ≡ flat_map f (take place xs) ++ (f x ++ flat_map f (drop (suc place) xs))
flat-split f [] place x low is = absurd (omega arith)
flat-split f (y ∷ ys) zero x low is = ap (λ z. f z ++ flat_map f ys) (sym is)
flat-split f (y ∷ ys) (suc place) x low is = ap (λ rest. f y ++ rest) (flat-split f ys place x (omega arith) is)
    ∙ sym (append_assoc (f y) (flat_map f (take place ys)) (f x ++ flat_map f (drop (suc place) ys)))

-- where a write fails, a front of all was taken
pub front-part : {X : Type 0} (f : X → List ℕ) (xs : List X) (place : ℕ) (x : X) (a h b h' c : List ℕ) → place < length xs → x ≡ get_or xs place x →
    Puts a h b h' (flat_map f (take place xs)) → TakesFront b c (h' ++ f x) → TakesFront a c (h ++ flat_map f xs)
front-part f xs place x a h b h' c low is one front =
    subst (λ all. TakesFront a c (h ++ all)) (append_assoc (flat_map f (take place xs)) (f x) (flat_map f (drop (suc place) xs)) ∙ sym (flat-split f xs place x low is))
    (front-more a c h (flat_map f (take place xs) ++ f x) (flat_map f (drop (suc place) xs)) (puts-front a h b h' c (flat_map f (take place xs)) (f x) one front))

-- ---- attaches of two parts

pub or-then : (a r b : Bool) → a ≡ true → r ≡ true → r ≡ (a || b)
or-then a r b is same = same ∙ ap (λ t. t || b) (sym is)

pub or-else : (a r b : Bool) → a ≡ false → r ≡ b → r ≡ (a || b)
or-else a r b is same = same ∙ ap (λ t. t || b) (sym is)
