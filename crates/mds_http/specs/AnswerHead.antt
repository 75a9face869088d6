-- The text of an answer (RFC 9112, section 2.1): a status line, fields, an empty line, and the
-- body. Each line ends with CR and LF.
use Rattle.std.specs.Prelude.{ℕ, List, [], ◌++◌, length, codes, decimal, Option, Some, None}
use Rattle.http.specs.StatusCode.{status_text}
use Rattle.mds_http.specs.declared.request.method.Method.{Method}
use Rattle.mds_http.specs.Method.{method_name}

-- an answer: its status, the method of the route where another one was asked for, and its body
pub record Answer : Type 0 where
  pub status : ℕ
  pub allow : Option Method
  pub body : List ℕ

-- the status line, with the status's phrase
abbrev pub status_line : ℕ → List ℕ
status_line status = codes "HTTP/1.1 " ++ (status_text status ++ codes "\r\n")

-- the field that says what a body is
abbrev pub type_line : List ℕ
type_line = codes "content-type: application/json\r\n"

-- the field that says how many bytes the body has
abbrev pub length_line : ℕ → List ℕ
length_line count = codes "content-length: " ++ (decimal count ++ codes "\r\n")

-- the field that says that no other answer follows
abbrev pub close_line : List ℕ
close_line = codes "connection: close\r\n"

-- the field that names the route's method, where another one was asked for
abbrev pub allow_line : Option Method → List ℕ
allow_line None = []
allow_line (Some method) = codes "allow: " ++ (method_name method ++ codes "\r\n")

-- all that stands before a body of so many bytes: the status line, the fields and the empty line
abbrev pub head_text : ℕ → Option Method → ℕ → List ℕ
head_text status allow count =
    status_line status ++ type_line ++ length_line count
    ++ close_line ++ allow_line allow ++ codes "\r\n"

-- all bytes of an answer
abbrev pub answer_text : Answer → List ℕ
answer_text answer = head_text answer.status answer.allow (length answer.body) ++ answer.body

-- all bytes of the answer where there is no memory for one: it has no body
abbrev pub memory_text : List ℕ
memory_text = status_line 503 ++ length_line 0 ++ close_line ++ codes "\r\n"

-- all bytes of the answer where what it would rest on isn't recorded
abbrev pub not_kept_text : List ℕ
not_kept_text =
    answer_text (record { status = 503; allow = None; body = codes "{\"error\":\"not_kept\"}" })
