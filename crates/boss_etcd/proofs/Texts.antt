use Rattle.std.proofs.Common.{◌≡◌, ℕ, suc, ◌+◌, ◌-◌, ◌<◌, min, List, ◌++◌, Result, Ok, Err, OnOk, Option, length, take, drop, codes, decimal, sym, ◌∙◌, ap, append_assoc, length-drop, arith}
use Rattle.std.proofs.lemmas.List.{take_min, drop_min}
use Rattle.boss_etcd.specs.Requests.{encoded, put_text, page_key, head_key, pages_text, pages_of, drop_text, dropped_text, compare_text, failure_text, commit_text, check_text}
use Rattle.boss_etcd.specs.Heads.{head_text}
use Rattle.boss_etcd.specs.Ranges.{head_range_text, keys_text, pages_range_text}

-- one text behind another
pub push_on : (t0 t1 t2 x y : List ℕ) → t1 ≡ t0 ++ x → t2 ≡ t1 ++ y → t2 ≡ t0 ++ (x ++ y)
push_on t0 t1 t2 x y first second = second ∙ ap (λ t. t ++ y) first ∙ append_assoc t0 x y

pub put_chain : (t0 t1 t2 t3 t4 t5 key value : List ℕ) → t1 ≡ t0 ++ codes "{\"request_put\":{\"key\":" → t2 ≡ t1 ++ encoded key
    → t3 ≡ t2 ++ codes ",\"value\":" → t4 ≡ t3 ++ encoded value → t5 ≡ t4 ++ codes "}}" → t5 ≡ t0 ++ put_text key value
unfolding put_text
put_chain t0 t1 t2 t3 t4 t5 key value one two three four five =
    push_on t0 t4 t5 (codes "{\"request_put\":{\"key\":" ++ encoded key ++ codes ",\"value\":" ++ encoded value) (codes "}}")
    (push_on t0 t3 t4 (codes "{\"request_put\":{\"key\":" ++ encoded key ++ codes ",\"value\":") (encoded value)
    (push_on t0 t2 t3 (codes "{\"request_put\":{\"key\":" ++ encoded key) (codes ",\"value\":")
    (push_on t0 t1 t2 (codes "{\"request_put\":{\"key\":") (encoded key) one two) three) four) five

-- five texts, one behind another
pub chain : (t0 t1 t2 t3 t4 t5 a b c d e : List ℕ) → t1 ≡ t0 ++ a → t2 ≡ t1 ++ b → t3 ≡ t2 ++ c → t4 ≡ t3 ++ d → t5 ≡ t4 ++ e
    → t5 ≡ t0 ++ (a ++ b ++ c ++ d ++ e)
chain t0 t1 t2 t3 t4 t5 a b c d e one two three four five =
    push_on t0 t4 t5 (a ++ b ++ c ++ d) e
    (push_on t0 t3 t4 (a ++ b ++ c) d (push_on t0 t2 t3 (a ++ b) c (push_on t0 t1 t2 a b one two) three) four) five

pub drop_chain : (t0 t1 t2 t3 t4 t5 name : List ℕ) (page : ℕ) → t1 ≡ t0 ++ codes ",{\"request_delete_range\":{\"key\":"
    → t2 ≡ t1 ++ encoded (page_key name page) → t3 ≡ t2 ++ codes ",\"range_end\":" → t4 ≡ t3 ++ encoded (name ++ codes "/p0")
    → t5 ≡ t4 ++ codes "}}" → t5 ≡ t0 ++ dropped_text name page
unfolding dropped_text
drop_chain t0 t1 t2 t3 t4 t5 name page one two three four five =
    chain t0 t1 t2 t3 t4 t5 (codes ",{\"request_delete_range\":{\"key\":") (encoded (page_key name page)) (codes ",\"range_end\":")
    (encoded (name ++ codes "/p0")) (codes "}}") one two three four five

pub compare_chain : (t0 t1 t2 t3 t4 t5 name revision : List ℕ) → t1 ≡ t0 ++ codes "{\"compare\":[{\"target\":\"MOD\",\"key\":"
    → t2 ≡ t1 ++ encoded (head_key name) → t3 ≡ t2 ++ codes ",\"mod_revision\":\"" → t4 ≡ t3 ++ revision
    → t5 ≡ t4 ++ codes "\"}],\"success\":[" → t5 ≡ t0 ++ compare_text name revision
unfolding compare_text
compare_chain t0 t1 t2 t3 t4 t5 name revision one two three four five =
    chain t0 t1 t2 t3 t4 t5 (codes "{\"compare\":[{\"target\":\"MOD\",\"key\":") (encoded (head_key name)) (codes ",\"mod_revision\":\"")
    revision (codes "\"}],\"success\":[") one two three four five

pub failure_chain : (t0 t1 t2 t3 name : List ℕ) → t1 ≡ t0 ++ codes "],\"failure\":[{\"request_range\":{\"key\":"
    → t2 ≡ t1 ++ encoded (head_key name) → t3 ≡ t2 ++ codes "}}]}" → t3 ≡ t0 ++ failure_text name
unfolding failure_text
failure_chain t0 t1 t2 t3 name one two three =
    push_on t0 t2 t3 (codes "],\"failure\":[{\"request_range\":{\"key\":" ++ encoded (head_key name)) (codes "}}]}")
    (push_on t0 t1 t2 (codes "],\"failure\":[{\"request_range\":{\"key\":") (encoded (head_key name)) one two) three

pub commit_chain : (t0 t1 t2 t3 t4 t5 name revision value bytes : List ℕ) (first : ℕ) (dropped : Option ℕ) → t1 ≡ t0 ++ compare_text name revision
    → t2 ≡ t1 ++ put_text (head_key name) value → t3 ≡ t2 ++ pages_text name first (pages_of (length bytes)) bytes
    → t4 ≡ t3 ++ drop_text name dropped → t5 ≡ t4 ++ failure_text name → t5 ≡ t0 ++ commit_text name revision value first bytes dropped
unfolding commit_text
commit_chain t0 t1 t2 t3 t4 t5 name revision value bytes first dropped one two three four five =
    chain t0 t1 t2 t3 t4 t5 (compare_text name revision) (put_text (head_key name) value) (pages_text name first (pages_of (length bytes)) bytes)
    (drop_text name dropped) (failure_text name) one two three four five

pub check_chain : (t0 t1 t2 name revision : List ℕ) → t1 ≡ t0 ++ compare_text name revision → t2 ≡ t1 ++ failure_text name
    → t2 ≡ t0 ++ check_text name revision
unfolding check_text
check_chain t0 t1 t2 name revision one two = push_on t0 t1 t2 (compare_text name revision) (failure_text name) one two

one_more : (size : ℕ) → 0 < size → pages_of size ≡ suc (pages_of (size - min 1024 size))
one_more size some = omega arith

-- a page is put, and the rest is to come
pub page_on : (t0 t2 name rest : List ℕ) (page size : ℕ) → 0 < length rest → size ≡ min 1024 (length rest)
    → t2 ≡ t0 ++ codes "," ++ put_text (page_key name page) (take size rest)
    → t2 ++ pages_text name (page + 1) (pages_of (length (drop size rest))) (drop size rest)
    ≡ t0 ++ pages_text name page (pages_of (length rest)) rest
page_on t0 t2 name rest page size some is second =
    let put : List ℕ = put_text (page_key name page) (take 1024 rest) in
    let taken : take size rest ≡ take 1024 rest = ap (λ n. take n rest) is ∙ take_min 1024 rest in
    let left : drop size rest ≡ drop 1024 rest = ap (λ n. drop n rest) is ∙ drop_min 1024 rest in
    let many : length (drop size rest) ≡ length rest - min 1024 (length rest) = length-drop size rest ∙ ap (λ n. length rest - n) is in
    let count : pages_of (length rest) ≡ suc (pages_of (length (drop size rest))) = one_more (length rest) some ∙ ap (λ n. suc (pages_of n)) (sym many) in
    let text : t2 ≡ t0 ++ (codes "," ++ put) =
    second ∙ ap (λ bytes. t0 ++ codes "," ++ put_text (page_key name page) bytes) taken ∙ append_assoc t0 (codes ",") put in
    let more : List ℕ = pages_text name (page + 1) (pages_of (length (drop size rest))) (drop size rest) in
    ap (λ t. t ++ more) text
    ∙ append_assoc t0 (codes "," ++ put) more
    ∙ ap (λ bytes. t0 ++ (codes "," ++ put ++ pages_text name (page + 1) (pages_of (length (drop size rest))) bytes)) left
    ∙ sym (ap (λ n. t0 ++ pages_text name page n rest) count)

pub on_ok : {T E : Type 0} {P Q : Type 0} (result : Result T E) → (P → Q) → OnOk result P → OnOk result Q
on_ok (Ok x) gives here = gives here
on_ok (Err e) gives here = tt

pub head_range_chain : (t0 t1 t2 t3 name : List ℕ) → t1 ≡ t0 ++ codes "{\"key\":" → t2 ≡ t1 ++ encoded (head_key name) → t3 ≡ t2 ++ codes "}"
    → t3 ≡ t0 ++ head_range_text name
unfolding head_range_text
head_range_chain t0 t1 t2 t3 name one two three =
    push_on t0 t2 t3 (codes "{\"key\":" ++ encoded (head_key name)) (codes "}") (push_on t0 t1 t2 (codes "{\"key\":") (encoded (head_key name)) one two) three

pub keys_chain : (t0 t1 t2 t3 t4 name : List ℕ) (page : ℕ) → t1 ≡ t0 ++ codes "{\"key\":" → t2 ≡ t1 ++ encoded (page_key name page)
    → t3 ≡ t2 ++ codes ",\"range_end\":" → t4 ≡ t3 ++ encoded (name ++ codes "/p0") → t4 ≡ t0 ++ keys_text name page
unfolding keys_text
keys_chain t0 t1 t2 t3 t4 name page one two three four =
    push_on t0 t3 t4 (codes "{\"key\":" ++ encoded (page_key name page) ++ codes ",\"range_end\":") (encoded (name ++ codes "/p0"))
    (push_on t0 t2 t3 (codes "{\"key\":" ++ encoded (page_key name page)) (codes ",\"range_end\":")
    (push_on t0 t1 t2 (codes "{\"key\":") (encoded (page_key name page)) one two) three) four

pub pages_range_chain : (t0 t1 t2 t3 t4 name revision : List ℕ) (page : ℕ) → t1 ≡ t0 ++ keys_text name page
    → t2 ≡ t1 ++ codes ",\"limit\":\"256\",\"revision\":\"" → t3 ≡ t2 ++ revision → t4 ≡ t3 ++ codes "\"}" → t4 ≡ t0 ++ pages_range_text name page revision
unfolding pages_range_text
pages_range_chain t0 t1 t2 t3 t4 name revision page one two three four =
    push_on t0 t3 t4 (keys_text name page ++ codes ",\"limit\":\"256\",\"revision\":\"" ++ revision) (codes "\"}")
    (push_on t0 t2 t3 (keys_text name page ++ codes ",\"limit\":\"256\",\"revision\":\"") revision
    (push_on t0 t1 t2 (keys_text name page) (codes ",\"limit\":\"256\",\"revision\":\"") one two) three) four

-- the value of a head, written part by part
pub head_chain : (t0 t1 t2 t3 t4 t5 owner digits size : List ℕ) (number length : ℕ) → t0 ≡ codes "bossd1 " → t1 ≡ t0 ++ owner → t2 ≡ t1 ++ codes " "
    → t3 ≡ t2 ++ digits → t4 ≡ t3 ++ codes " " → t5 ≡ t4 ++ size → digits ≡ decimal number → size ≡ decimal length → t5 ≡ head_text owner number length
unfolding head_text
head_chain t0 t1 t2 t3 t4 t5 owner digits size number length zero one two three four five is_number is_length =
    let to_number : t3 ≡ codes "bossd1 " ++ owner ++ codes " " ++ decimal number =
    three ∙ ap (λ text. t2 ++ text) is_number
    ∙ ap (λ t. t ++ decimal number) (two ∙ ap (λ t. t ++ codes " ") (one ∙ ap (λ t. t ++ owner) zero)) in
    five ∙ ap (λ text. t4 ++ text) is_length ∙ ap (λ t. t ++ decimal length) (four ∙ ap (λ t. t ++ codes " ") to_number)
